use Rattle.std.proofs.Common.{◌+◌, ◌-◌, length}
use Rattle.chunk_core.proofs.WalkLoop.{IsWalked, set_at}
use Rattle.chunk_core.proofs.walking.walk_at.Given as goal

abbrev pub invariant-loop-done : goal.invariant-loop-done
invariant-loop-done l = IsWalked (set_at l.at l.bytes) l.at (l.at + l.done) (l.at + length l.bytes) l.spans.items

abbrev pub decreases-loop-done : goal.decreases-loop-done
decreases-loop-done l = length l.bytes - l.done
