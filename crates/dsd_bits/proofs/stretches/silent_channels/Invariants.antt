use Rattle.std.proofs.Common.{◌≡◌, Bool, List, [], replicate}
use Rattle.dsd_bits.proofs.stretches.silent_channels.Given as goal

abbrev pub invariant-loop-c : goal.invariant-loop-c
invariant-loop-c l = l.made.items ≡ replicate {A = List Bool} l.c []
