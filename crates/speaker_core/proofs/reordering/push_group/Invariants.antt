use Rattle.std.proofs.Common.{◌≡◌, ◌++◌, take}
use Rattle.speaker_core.specs.Reordering.{group_in}
use Rattle.speaker_core.proofs.reordering.push_group.Given as goal

abbrev pub invariant-loop-c : goal.invariant-loop-c
invariant-loop-c l = l.out.items ≡ l.fn.out.items ++ group_in (take l.c-index l.order) l.size l.group
