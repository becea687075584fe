-- Tables of bounds as lists: a row for each level, and in it a number for each state.
use Rattle.std.specs.Prelude.{◌≡◌, ℕ, ◌+◌, ◌≤◌, List, [], length, slice_index_or}
use Rattle.cost_core.specs.Trellis.{Trellis, states}

-- the row of a level
abbrev pub row_in : List (List ℕ) → ℕ → List ℕ
row_in rows level = slice_index_or rows level []

-- the number of a state at a level
abbrev pub value_in : List (List ℕ) → ℕ → ℕ → ℕ
value_in rows level q = slice_index_or (row_in rows level) q 0

-- a row for each level from 0 on, and in each a number for each state
pub record IsTable (t : Trellis) (rows : List (List ℕ)) : Type 0 where
  pub levels_in : length rows ≡ t.levels + 1
  pub states_in : (level : ℕ) → level ≤ t.levels → length (row_in rows level) ≡ states t
