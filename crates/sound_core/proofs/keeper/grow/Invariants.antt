use Rattle.sound_core.proofs.KeeperLaws.{GrownUpTo}
use Rattle.sound_core.proofs.keeper.grow.Given as goal

abbrev pub invariant-loop-c : goal.invariant-loop-c
invariant-loop-c l = GrownUpTo l.fn.range l.channels l.done l.initial.bits-items l.bits-items l.c
