use Rattle.std.proofs.Common.{◌≡◌, length}
use Rattle.null_core.proofs.filler.all_parts.Given as goal

abbrev pub invariant-loop-channel : goal.invariant-loop-channel
invariant-loop-channel l = length l.made.items ≡ l.channel
