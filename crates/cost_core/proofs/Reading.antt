-- Loops over bits that carry a state.
use Rattle.std.proofs.Common.{◌≡◌, ℕ, ◌+◌, ◌*◌, ◌%◌, ◌^◌, ◌<◌, ◌≤◌, Bool, true, false, List, ◌∷◌, length, get_or, drop, refl, ◌∙◌, arith}
use Rattle.std.proofs.Math.Numerals.{add-one}
use Rattle.std.proofs.Math.Seq.{drop-cons}
use Rattle.std.proofs.Math.ListN.{drop_of_length-le}
use Rattle.std.proofs.lemmas.Nat.{pow_pos}
use mir.Val.{bool_byte}
use Rattle.cost_core.specs.Trellis.{Trellis, digit, state_after, steps, cost_from}
use Rattle.cost_core.proofs.Walks.{cost_from-none, cost_from-cons}

pub bool_digit : (bit : Bool) → bool_byte bit ≡ digit bit
bool_digit false = refl
bool_digit true = refl

module _ (bits : List Bool) (k v : ℕ) (lt : k < length bits) (is : v ≡ bool_byte (get_or bits k false)) where
  cut : drop k bits ≡ get_or bits k false ∷ drop (k + 1) bits
  cut = rw add-one (drop-cons bits k false lt)

  digit_is : v ≡ digit (get_or bits k false)
  digit_is = is ∙ bool_digit (get_or bits k false)

  pub read_more : (w q n whole : ℕ) → n ≡ 2 ^ w → state_after w q (drop k bits) ≡ whole → state_after w ((2 * q + v) % n) (drop (k + 1) bits) ≡ whole
  unfolding state_after
  read_more w q n whole en e = let f = rw cut at e in rw (digit_is, en) f

  pub steps_more : (w : ℕ) (step : ℕ → ℕ → Bool → ℕ) (level q n cost total whole : ℕ) → n ≡ 2 ^ w → cost ≡ step level q (get_or bits k false) → total + steps w step level q (drop k bits) ≡ whole →
      (total + cost) + steps w step (level + 1) ((2 * q + v) % n) (drop (k + 1) bits) ≡ whole
  unfolding steps
  steps_more w step level q n cost total whole en ec e = let f = rw cut at e in rw (digit_is, en, ec) (omega arith)

  pub cost_more : (t : Trellis) (level q n cost total whole : ℕ) → n ≡ 2 ^ t.width → cost ≡ t.step level q (get_or bits k false) → total + cost_from t level q (drop k bits) ≡ whole →
      (total + cost) + cost_from t (level + 1) ((2 * q + v) % n) (drop (k + 1) bits) ≡ whole
  cost_more t level q n cost total whole en ec e =
      let f = rw cut at e in
      let g = cost_from-cons t level q (get_or bits k false) (drop (k + 1) bits) in
      rw (digit_is, en, ec) (omega arith)

pub state_below : (x w n : ℕ) → n ≡ 2 ^ w → x % n < 2 ^ w
state_below x w n e = rw e (omega (arith, pow_pos w))

pub read_done : (bits : List Bool) (k w q whole : ℕ) → length bits ≤ k → state_after w q (drop k bits) ≡ whole → q ≡ whole
unfolding state_after
read_done bits k w q whole h e = rw (drop_of_length-le bits h) at e

pub steps_done : (bits : List Bool) (w : ℕ) (step : ℕ → ℕ → Bool → ℕ) (k level q total whole : ℕ) → length bits ≤ k → total + steps w step level q (drop k bits) ≡ whole → total ≡ whole
unfolding steps
steps_done bits w step k level q total whole h e = let f = rw (drop_of_length-le bits h) at e in omega arith

pub cost_done : (bits : List Bool) (t : Trellis) (k level q total whole : ℕ) → length bits ≤ k → total + cost_from t level q (drop k bits) ≡ whole → total + t.tail q ≡ whole
cost_done bits t k level q total whole h e = let f = rw (drop_of_length-le bits h) at e in omega (arith, cost_from-none t level q)
