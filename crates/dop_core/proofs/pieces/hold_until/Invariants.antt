-- What was read so far is held.
use Rattle.std.proofs.Common.{◌≡◌, ◌-◌, ◌≤◌, ℕ, List, ◌++◌, length}
use Rattle.chunk_core.specs.Inlets.{PullsBytes}
use Rattle.dop_core.proofs.pieces.hold_until.Given as goal

abbrev pub invariant-loop-held : goal.invariant-loop-held
invariant-loop-held g l = record {
  few : length l.held.items ≤ l.wanted;
  read : List ℕ;
  pulled : PullsBytes g.R.Read.remaining l.fn.inlet l.inlet read;
  appended : l.held.items ≡ l.fn.held.items ++ read;
}

abbrev pub decreases-loop-held : goal.decreases-loop-held
decreases-loop-held g l = l.wanted - length l.held.items
