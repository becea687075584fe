use Rattle.std.proofs.Common.{◌≡◌, ◌+◌, [], ◌∷◌, ◌++◌, codes, map}
use Rattle.std.specs.List.{range_with_len}
use Rattle.dop_core.proofs.reading.channel_ids.Given as goal

abbrev pub invariant-loop-c : goal.invariant-loop-c
invariant-loop-c l = l.ids.items ≡ map (λ c. codes "C00" ++ (48 + c) ∷ []) (range_with_len 0 l.c)
