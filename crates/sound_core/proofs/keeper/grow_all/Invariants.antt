use Rattle.sound_core.specs.Stretches.{items_of}
use Rattle.sound_core.proofs.KeeperLaws.{AllGrownUpTo}
use Rattle.sound_core.proofs.keeper.grow_all.Given as goal

abbrev pub invariant-loop-i : goal.invariant-loop-i
invariant-loop-i l = AllGrownUpTo l.ranges l.channels l.done (items_of l.initial.stretches) (items_of l.stretches) l.i
