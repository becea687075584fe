use Rattle.std.proofs.Common.{◌≡◌, ◌++◌}
use Rattle.speaker_core.specs.Reordering.{groups_in}
use Rattle.speaker_core.proofs.reordering.push_groups.Given as goal

abbrev pub invariant-loop-left : goal.invariant-loop-left
invariant-loop-left l = l.fn.out.items ++ groups_in l.order l.size l.fn.groups l.bytes ≡ l.out.items ++ groups_in l.order l.size l.left l.rest

abbrev pub decreases-loop-left : goal.decreases-loop-left
decreases-loop-left l = l.left
