-- The cost of a bridge as a sum over places.
use Rattle.std.specs.Prelude.{ℕ, ◌+◌, ◌-◌, Bool, List, ◌++◌, length, slice_index_or, ℤ, pos, ◌-ℤ◌, ◌*ℤ◌}
use Rattle.std.specs.List.{sum_by, range_with_len}
use Rattle.cost_core.specs.Least.{IsLeast, IsFirstLeast}
use Rattle.cost_core.specs.Weighted.{weighted, square}

-- what decides the cost of a bridge's bits: the weights, how many bits the bridge has (a search has one level for each), the bits before and after it that a weight reads, and the targets, that of place 1 first
pub record Bridging : Type 0 where
  pub weights : List ℤ
  pub levels : ℕ
  pub preceding : List Bool
  pub following : List Bool
  pub targets : List ℤ

-- the target of place i, counted from 1
abbrev pub target : Bridging → ℕ → ℤ
target d i = slice_index_or d.targets (i - 1) (pos 0)

-- the bits of the window: those before the bridge, the bridge, those after it
abbrev pub window_bits : Bridging → List Bool → List Bool
window_bits d x = d.preceding ++ (x ++ d.following)

-- the squared deviation from the target at place i of a bridge whose first bit has index m in z
unfoldable pub term : Bridging → List Bool → ℕ → ℕ → ℕ
term d z m i = square ((pos (d.levels + 1) *ℤ weighted d.weights z (m + (i - 1))) -ℤ target d i)

-- the sum over the places of a bridge whose first bit has index m in z: its own, and those after it that a weight reads
unfoldable pub places_cost : Bridging → List Bool → ℕ → ℕ
places_cost d z m = sum_by (term d z m) (range_with_len 1 (d.levels + length d.following))

-- the cost of a bridge's bits: the sum over the places of its window
unfoldable pub bridge_cost : Bridging → List Bool → ℕ
bridge_cost d x = places_cost d (window_bits d x) (length d.preceding)

-- no bits of a bridge's length cost less
abbrev pub IsLeastBridge : Bridging → List Bool → Type 0
IsLeastBridge d x = IsLeast d.levels (bridge_cost d) x

-- and of those of the same cost they come first, read from the last bit to the first, 0 before 1
abbrev pub IsFirstLeastBridge : Bridging → List Bool → Type 0
IsFirstLeastBridge d x = IsFirstLeast d.levels (bridge_cost d) x
