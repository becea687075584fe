use Rattle.std.proofs.Common.{◌≡◌, take}
use Rattle.dsd_bits.specs.Stretches as specs
use Rattle.dsd_bits.proofs.stretches.stretch_of.Given as goal

abbrev pub invariant-loop-c : goal.invariant-loop-c
invariant-loop-c l = l.made.items ≡ specs.stretch_of (take l.c l.channels) l.range
