use Rattle.std.proofs.Common.{◌+◌, ◌-◌}
use Rattle.dsdiff_core.specs.Walks.{IsWalked}
use Rattle.dsdiff_core.proofs.header.find_head.Given as goal

abbrev pub invariant-loop-at : goal.invariant-loop-at
invariant-loop-at l = IsWalked l.prefix l.at

abbrev pub decreases-loop-at : goal.decreases-loop-at
decreases-loop-at l = l.size + 1 - l.at
