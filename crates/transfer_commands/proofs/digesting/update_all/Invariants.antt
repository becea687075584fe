use Rattle.transfer_commands.proofs.DigestLaws.{UpdatedUpTo}
use Rattle.transfer_commands.proofs.digesting.update_all.Given as goal

abbrev pub invariant-loop-c : goal.invariant-loop-c
invariant-loop-c l = UpdatedUpTo l.channels l.initial.hashers l.hashers l.c
