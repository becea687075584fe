-- What was read so far, and no data chunk is in it.
use Rattle.std.proofs.Common.{◌≡◌, ◌-◌, ◌≤◌, ◌^◌, length, true}
use Rattle.chunk_core.specs.Inlets.{PullsBytes}
use Rattle.dop_core.specs.Fields.{is_wave}
use Rattle.dop_core.proofs.ReadingLaws.{Walks}
use Rattle.dop_core.proofs.front.read_front.Given as goal

abbrev pub invariant-loop-front : goal.invariant-loop-front
invariant-loop-front g l = record {
  pulled : PullsBytes g.R.Read.remaining l.fn.inlet l.inlet l.front.items;
  wave : is_wave l.front.items ≡ true;
  long : 12 ≤ length l.front.items;
  walks : Walks l.front.items (length l.front.items);
}

abbrev pub decreases-loop-front : goal.decreases-loop-front
decreases-loop-front g l = 2 ^ 64 - length l.front.items
