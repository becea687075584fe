use Rattle.transfer_commands.proofs.DigestLaws.{AllDigested}
use Rattle.transfer_commands.proofs.digesting.Digester.finish.Given as goal

abbrev pub invariant-loop-hasher : goal.invariant-loop-hasher
invariant-loop-hasher l = AllDigested l.yielded l.made.items
