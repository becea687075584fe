use Rattle.transfer_commands.specs.Digesting.{HoldNothing}
use Rattle.transfer_commands.proofs.digesting.new_hashers.Given as goal

abbrev pub invariant-loop-channel : goal.invariant-loop-channel
invariant-loop-channel l = HoldNothing l.made.items l._channel
