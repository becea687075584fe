-- A row over plain lists that exceeds nothing that the row before it sets.
use Rattle.std.specs.Prelude.{◌≡◌, ℕ, ◌<◌, ◌≤◌, List, Option, MatchOption, length, slice_index}
use Rattle.cost_core.specs.Rows.{lower, upper}
use Rattle.cost_core.specs.Trellis.{IsBounded, Trellis, states}
use Rattle.cert_core.specs.Reasons.{RowBounded}

-- the rows of a level and of the next one by state, the first of bounds
pub record AreRows (t : Trellis) (level : ℕ) (previous row : List ℕ) : Type 0 where
  pub bounded : IsBounded t
  pub inside : level < t.levels
  pub previous_len : length previous ≡ states t
  pub row_len : length row ≡ states t
  pub limit : RowBounded t previous

-- the lowest number below n of which P holds, or none if there is none
abbrev pub IsFirstBelow : ℕ → (ℕ → Type 0) → Option ℕ → Type 0
IsFirstBelow n P found = MatchOption found
    ((q : ℕ) → q < n → P q → ⊥)
    (λ q. (q < n) × P q × ((k : ℕ) → k < q → P k → ⊥))

-- no value of the first n states exceeds either way in, from the row before and the steps
abbrev pub WithinBoth : ℕ → List ℕ → List ℕ → List ℕ → List ℕ → Type 0
WithinBoth n previous lows highs row = (k : ℕ) → k < n →
    (slice_index row k ≤ slice_index (lower previous lows) k) × (slice_index row k ≤ slice_index (upper previous highs) k)
