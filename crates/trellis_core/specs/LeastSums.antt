-- Least sums of steps by level and state, over all lists of bits, and tables of them (Viterbi 1967: shortest paths, the minimum over all paths).
use Rattle.std.specs.Prelude.{◌≡◌, ◌↔◌, ℕ, zero, suc, ◌+◌, ◌==◌, ◌^◌, ◌<◌, ◌≤◌, ◌⊎◌, min, Bool, false, true, List, [], ◌∷◌, ◌++◌, filter, fold, length, map}
use Rattle.std.specs.List.{range_with_len}
use Rattle.cost_core.specs.Trellis.{Trellis, states, state_after, steps}
use Rattle.cost_core.specs.Tables.{IsTable, value_in}
use Rattle.cost_core.specs.Bridges.{Bridging, bridge_cost, IsLeastBridge}
use Rattle.cost_core.specs.StateCosts.{trellis_of}
use Rattle.cost_core.specs.Limits.{IsBridging}
use Rattle.cost_core.specs.Validity.{IsValid}

-- these bits lead from the start to a state, in n steps
abbrev pub LeadsTo : Trellis → ℕ → ℕ → List Bool → Type 0
LeadsTo t level q x = (length x ≡ level) × (state_after t.width t.start x ≡ q)

-- the sum of the steps of some bits from the start
abbrev pub sum_of_steps : Trellis → List Bool → ℕ
sum_of_steps t x = steps t.width t.step 0 t.start x

-- v is the lesser of 2 ^ 63 and the least sum of steps over all lists of n bits that lead to a state; it is 2 ^ 63 if
-- none leads there
pub record IsBest (t : Trellis) (level q v : ℕ) : Type 0 where
  pub at_most : v ≤ 2 ^ 63
  pub below_each : (x : List Bool) → LeadsTo t level q x → v ≤ sum_of_steps t x
  pub is_some : (v ≡ 2 ^ 63) ⊎ ((x : List Bool) × LeadsTo t level q x × (sum_of_steps t x ≡ v))

-- a row for each level, and in it the best sum of each state
pub record BestRows (t : Trellis) (rows : List (List ℕ)) : Type 0 where
  pub is_table : IsTable t rows
  pub are_best : (level q : ℕ) → level ≤ t.levels → q < states t → IsBest t level q (value_in rows level q)

-- law: the best sums are valid bounds for each least bridge
abbrev pub BestRowsAreValid : Type 0
BestRowsAreValid =
    (d : Bridging) (rows : List (List ℕ)) (x : List Bool) → IsBridging d → BestRows (trellis_of d) rows → IsLeastBridge d x
    → IsValid (trellis_of d) (value_in rows) (bridge_cost d x) x

-- all lists of n bits
unfoldable pub bit_lists : ℕ → List (List Bool)
bit_lists zero = [] ∷ []
bit_lists (suc n) = map (λ x. false ∷ x) (bit_lists n) ++ map (λ x. true ∷ x) (bit_lists n)

-- whether some bits lead from the start to a state
abbrev pub leads_to : Trellis → ℕ → List Bool → Bool
leads_to t q x = state_after t.width t.start x == q

-- the lesser of 2 ^ 63 and the least sum of steps over all lists of `level` bits that lead from the start to a state
unfoldable pub least_sum : Trellis → ℕ → ℕ → ℕ
least_sum t level q = fold min (2 ^ 63) (map (sum_of_steps t) (filter (leads_to t q) (bit_lists level)))

-- the row of a level: these sums by rising state
unfoldable pub least_row : Trellis → ℕ → List ℕ
least_row t level = map (least_sum t level) (range_with_len 0 (states t))

-- the rows of all levels, level 0 first
unfoldable pub least_rows : Trellis → List (List ℕ)
least_rows t = map (least_row t) (range_with_len 0 (t.levels + 1))

-- law: a table is one of best sums exactly if it is `least_rows`, so there is one such table
abbrev pub BestRowsAreLeast : Type 0
BestRowsAreLeast = (t : Trellis) (rows : List (List ℕ)) → BestRows t rows ↔ (rows ≡ least_rows t)
