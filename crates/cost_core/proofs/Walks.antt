-- Walks through a trellis, and tables that bound them.
use Rattle.std.proofs.Common.{◌≡◌, ℕ, ◌+◌, ◌<◌, ◌≤◌, Bool, true, false, List, [], ◌∷◌, length, arith}
use Rattle.std.proofs.lemmas.Nat.{pow_pos}
use Rattle.cost_core.specs.Trellis.{Trellis, digit, states, next, state_after, steps, cost_from, cost}
use Rattle.cost_core.specs.Validity.{IsValid}

pub digit_below : (bit : Bool) → digit bit < 2
digit_below false = omega arith
digit_below true = omega arith

pub next_below : (t : Trellis) (q : ℕ) (bit : Bool) → next t.width q bit < states t
next_below t q bit = omega (arith, pow_pos t.width)

-- a cost from a level on, bit by bit
pub cost_from-none : (t : Trellis) (level q : ℕ) → cost_from t level q [] ≡ t.tail q
unfolding cost_from steps state_after
cost_from-none t level q = omega arith

pub cost_from-cons : (t : Trellis) (level q : ℕ) (bit : Bool) (x : List Bool) → cost_from t level q (bit ∷ x) ≡ t.step level q bit + cost_from t (level + 1) (next t.width q bit) x
unfolding cost_from steps state_after
cost_from-cons t level q bit x = omega arith

module _ (t : Trellis) (bound : ℕ → ℕ → ℕ) (c : ℕ) (x : List Bool) (v : IsValid t bound c x) where
  -- a valid table bounds what is still to come
  bounds_rest : (y : List Bool) (level q : ℕ) → level + length y ≡ t.levels → q < states t → c ≤ bound level q + cost_from t level q y
  bounds_rest [] level q e h =
      let at : level ≡ t.levels = omega arith in
      rw at (omega (arith, v.at_end q h, cost_from-none t t.levels q))
  bounds_rest (bit ∷ y) level q e h =
      omega (arith, bounds_rest y (level + 1) (next t.width q bit) (omega arith) (next_below t q bit), v.at_step level q bit (omega arith) h, cost_from-cons t level q bit y)

  pub bounds_cost : t.start < states t → (y : List Bool) → length y ≡ t.levels → cost t x ≤ cost t y
  unfolding cost
  bounds_cost h y e = omega (arith, bounds_rest y 0 t.start (omega arith) h, v.at_start, v.is_cost)
