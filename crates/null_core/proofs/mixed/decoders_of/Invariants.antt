use Rattle.std.proofs.Common.{◌≡◌, map, take, ℤ, Vec, Global}
use Rattle.null_core.proofs.mixed.decoders_of.Given as goal

abbrev pub invariant-loop-taps : goal.invariant-loop-taps
invariant-loop-taps l = l.made.items ≡ take l.taps-index (map (λ (taps : Vec ℤ Global). taps.items) l.lists)
