-- A trellis: the states that bits lead through, and what each step and the end cost (Viterbi 1967: the trellis of a finite-state machine).
use Rattle.std.specs.Prelude.{◌≡◌, ℕ, ◌+◌, ◌*◌, ◌-◌, ◌/◌, ◌%◌, ◌^◌, ◌<◌, ◌==◌, Bool, true, false, List, [], ◌∷◌, length}

-- states are the numbers below 2 ^ width: the last `width` bits, the newest the least significant
pub record Trellis : Type 0 where
  pub width : ℕ
  pub levels : ℕ
  pub start : ℕ
  -- the cost of a bit at a level, from a state
  pub step : ℕ → ℕ → Bool → ℕ
  -- the cost of ending in a state
  pub tail : ℕ → ℕ

-- how many states there are
abbrev pub states : Trellis → ℕ
states t = 2 ^ t.width

-- a bit as a number
abbrev pub digit : Bool → ℕ
digit false = 0
digit true = 1

-- a state's newest bit
abbrev pub newest : ℕ → Bool
newest q = q % 2 == 1

-- the state that a bit leads to, for states of `width` bits
abbrev pub next : ℕ → ℕ → Bool → ℕ
next width q bit = (2 * q + digit bit) % 2 ^ width

-- of the two states that lead to a state by its newest bit, the one whose oldest bit is 0
abbrev pub before_by_0 : ℕ → ℕ → ℕ
before_by_0 width q = q / 2

-- of the two states that lead to a state by its newest bit, the one whose oldest bit is 1
abbrev pub before_by_1 : ℕ → ℕ → ℕ
before_by_1 width q = q / 2 + 2 ^ (width - 1)

-- the state after some bits
unfoldable pub state_after : ℕ → ℕ → List Bool → ℕ
state_after width q [] = q
state_after width q (bit ∷ x) = state_after width (next width q bit) x

-- the sum of the steps that some bits take from a level and a state on
unfoldable pub steps : ℕ → (ℕ → ℕ → Bool → ℕ) → ℕ → ℕ → List Bool → ℕ
steps width step level q [] = 0
steps width step level q (bit ∷ x) = step level q bit + steps width step (level + 1) (next width q bit) x

-- the cost of some bits from a level and a state on: their steps, and the end that they lead to
unfoldable pub cost_from : Trellis → ℕ → ℕ → List Bool → ℕ
cost_from t level q x = steps t.width t.step level q x + t.tail (state_after t.width q x)

-- the cost of a bridge's bits: their steps from the start, and the end that they lead to
unfoldable pub cost : Trellis → List Bool → ℕ
cost t x = cost_from t 0 t.start x

-- no number leaves its type: a step is below 2 ^ 51, an end and a whole cost below 2 ^ 63
pub record IsBounded (t : Trellis) : Type 0 where
  pub some_state : 0 < t.width
  pub start_in : t.start < states t
  pub step_in : (level q : ℕ) (bit : Bool) → level < t.levels → q < states t → t.step level q bit < 2 ^ 51
  pub tail_in : (q : ℕ) → q < states t → t.tail q < 2 ^ 63
  pub cost_in : (x : List Bool) → length x ≡ t.levels → cost t x < 2 ^ 63
