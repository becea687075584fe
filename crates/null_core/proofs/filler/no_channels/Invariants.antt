use Rattle.std.proofs.Common.{◌≡◌, Bool, List, [], replicate}
use Rattle.null_core.proofs.filler.no_channels.Given as goal

abbrev pub invariant-loop-channel : goal.invariant-loop-channel
invariant-loop-channel l = l.made.items ≡ replicate {A = List Bool} l._channel []
