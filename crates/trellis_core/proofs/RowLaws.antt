-- Rows of least sums, as lists.
use Rattle.std.proofs.Common.{◌≡◌, ℕ, ◌+◌, ◌/◌, ◌^◌, ◌<◌, min, List, length, get_or, sym, ap, ◌∙◌, arith}
use Rattle.std.proofs.Math.Numerals.{add-one}
use Rattle.std.proofs.lemmas.List.FromFn.{fill_by_all, length-map-range_with_len, get_or-map-range_with_len}
use Rattle.cost_core.specs.Trellis.{Trellis, states, newest, before_by_0, before_by_1, IsBounded}
use Rattle.cost_core.proofs.Numbers.{pow_double}
use Rattle.cost_core.proofs.StepRows.{high_is}
use Rattle.trellis_core.specs.Best.{by_0, by_1, best, best_row}

pub row_length : (t : Trellis) (i : ℕ) → length (best_row t i) ≡ states t
unfolding best_row
row_length t i = length-map-range_with_len (best t i) 0 (states t)

pub row_at : (t : Trellis) (i q : ℕ) → q < states t → get_or (best_row t i) q 0 ≡ best t i q
unfolding best_row
row_at t i q h = get_or-map-range_with_len (best t i) 0 (states t) q q 0 h (omega arith)

best_next : (t : Trellis) (i q : ℕ) → best t (i + 1) q ≡ min (min (by_0 t i (best t i) q) (by_1 t i (best t i) q)) (2 ^ 63)
unfolding best
best_next t i q = rw add-one (omega arith)

pub best_from : (t : Trellis) (i q a b m v : ℕ) → a ≡ by_0 t i (best t i) q → b ≡ by_1 t i (best t i) q → m ≡ min a b → v ≡ min m (2 ^ 63) → v ≡ best t (i + 1) q
best_from t i q a b m v ea eb em ev = rw (ev, em, ea, eb) (sym (best_next t i q))

pub before_0_in : (t : Trellis) (q : ℕ) → q < states t → before_by_0 t.width q < states t
before_0_in t q h = omega arith

pub before_1_in : (t : Trellis) → 0 < t.width → (q : ℕ) → q < states t → before_by_1 t.width q < states t
before_1_in t some q h = omega (arith, pow_double t.width some)

-- a row, as it is read
pub row_is : (t : Trellis) (i : ℕ) (row : List ℕ) → length row ≡ states t → ((q : ℕ) → q < states t → get_or row q 0 ≡ best t i q) → row ≡ best_row t i
unfolding best_row
row_is t i row long each = fill_by_all (best t i) row (states t) 0 long each

-- the sums by either state before a state, as they are read from a row
module _ (t : Trellis) (fine : IsBounded t) (i q n : ℕ) (row : List ℕ) (en : n ≡ states t) (er : row ≡ best_row t i) (hq : q < states t) where
  high : q / 2 + n / 2 ≡ before_by_1 t.width q
  high = high_is t fine.some_state q n en

  pub low_state : q / 2 < states t
  low_state = before_0_in t q hq

  pub high_state : q / 2 + n / 2 < states t
  high_state = rw high (before_1_in t fine.some_state q hq)

  at : (p : ℕ) → p < states t → get_or row p 0 ≡ best t i p
  at p h = ap (λ l. get_or l p 0) er ∙ row_at t i p h

  pub sum_0 : (s : ℕ) → s ≡ t.step i (q / 2) (newest q) → get_or row (q / 2) 0 + s ≡ by_0 t i (best t i) q
  sum_0 s es = omega (arith, at (q / 2) low_state)

  pub sum_1 : (s : ℕ) → s ≡ t.step i (q / 2 + n / 2) (newest q) → get_or row (q / 2 + n / 2) 0 + s ≡ by_1 t i (best t i) q
  sum_1 s es = ap (λ p. get_or row p 0 + s) high ∙ omega (arith, at (before_by_1 t.width q) (before_1_in t fine.some_state q hq), es ∙ ap (λ p. t.step i p (newest q)) high)
