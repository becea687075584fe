-- The cost of a bridge by states, step by step.
use Rattle.std.specs.Prelude.{◌≡◌, ℕ, ◌+◌, ◌*◌, ◌^◌, Bool, List, ◌++◌, length, map, ℤ, pos, ◌-ℤ◌, ◌*ℤ◌}
use Rattle.std.specs.List.{range_with_len}
use Rattle.cost_core.specs.Trellis.{Trellis, digit, newest, before_by_0, before_by_1, state_after, steps, cost, IsBounded}
use Rattle.cost_core.specs.Weighted.{weighted_code, square}
use Rattle.cost_core.specs.Bridges.{Bridging, target, bridge_cost}
use Rattle.cost_core.specs.Limits.{IsBridging}

-- one more than the levels times the weighted sum of the bits of a number
abbrev pub scaled : Bridging → ℕ → ℤ
scaled d code = pos (d.levels + 1) *ℤ weighted_code d.weights code

-- the squared deviation at the place after a level, if the bits up to it are the digits of a number
unfoldable pub deviation : Bridging → ℕ → ℕ → ℕ
deviation d level code = square (scaled d code -ℤ target d (level + 1))

-- the squared deviation at the place after a level, if it has a given bit and the bits before it are those of state q
abbrev pub step_of : Bridging → ℕ → ℕ → Bool → ℕ
step_of d level q bit = deviation d level (2 * q + digit bit)

-- the trellis of a bridge: it starts in the bits before it, and its end costs the steps along the bits after it
abbrev pub trellis_of : Bridging → Trellis
trellis_of d = record {
  width = length d.preceding;
  levels = d.levels;
  start = state_after (length d.preceding) 0 d.preceding;
  step = step_of d;
  tail = λ q. steps (length d.preceding) (step_of d) d.levels q d.following;
}

-- the steps of a level by the state that they lead to: first from the states whose oldest bit is 0, then from those whose oldest bit is 1
abbrev pub step_row : Bridging → ℕ → List ℕ
step_row d level =
    let width = length d.preceding in
    map (λ q. step_of d level (before_by_0 width q) (newest q)) (range_with_len 0 (2 ^ width))
    ++ map (λ q. step_of d level (before_by_1 width q) (newest q)) (range_with_len 0 (2 ^ width))

-- the costs of ending in each state
abbrev pub tail_row : Bridging → List ℕ
tail_row d = map (trellis_of d).tail (range_with_len 0 (2 ^ length d.preceding))

-- the steps along a bridge's bits, and the end that they lead to, add up to the sum over places
abbrev pub StepsAreCost : Type 0
StepsAreCost = (d : Bridging) (x : List Bool) → IsBridging d → length x ≡ d.levels → cost (trellis_of d) x ≡ bridge_cost d x

-- no cost within the limits leaves its type
abbrev pub CostsInBounds : Type 0
CostsInBounds = (d : Bridging) → IsBridging d → IsBounded (trellis_of d)
