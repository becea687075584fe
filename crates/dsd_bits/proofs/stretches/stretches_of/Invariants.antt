use Rattle.std.proofs.Common.{◌≡◌, map, take}
use Rattle.dsd_bits.specs.Stretches.{stretches_of}
use Rattle.dsd_bits.proofs.stretches.stretches_of.Given as goal

abbrev pub invariant-loop-k : goal.invariant-loop-k
invariant-loop-k l = map (λ stretch. stretch.items) l.made.items ≡ stretches_of l.channels (take l.k l.ranges)
