-- Lists that are written over, the way back, and the end state.
use Rattle.std.proofs.Common.{◌≡◌, ℕ, zero, suc, ◌+◌, ◌-◌, ◌/◌, ◌^◌, ◌<◌, ◌≤◌, Bool, ltb, List, [], ◌∷◌, ◌++◌, length, take, drop, get_or, sym, ap, ◌∙◌, inl, inr, refl, arith, append_assoc}
use Rattle.std.proofs.lemmas.Bool.{lt-ltb, le-ltb, cases_Bool, cases_lt}
use Rattle.std.proofs.lemmas.Nat.{pow_pos, pow-add}
use Rattle.std.proofs.Math.Nat.{mul-div_left, two-pow-succ, pow-le-pow_right}
use Rattle.std.proofs.lemmas.List.{append-nil, length-append, length-take, length-drop, drop_all, take_all}
use Rattle.std.proofs.lemmas.List.FromFn.{fill_by_all, length-map-range_with_len, get_or-map-range_with_len}
use Rattle.cost_core.specs.Trellis.{Trellis, states, newest, IsBounded}
use Rattle.trellis_core.specs.Best.{by_0, by_1, best, best_row, before, total, total_row, traced, final}
use Rattle.trellis_core.proofs.Bests.{best_le}
use Rattle.trellis_core.proofs.RowLaws.{row_length, row_at, before_0_in, before_1_in}

-- a list of the same length, written over another
pub written_length : {X : Type 0} (n k : ℕ) (new old : List X) → n ≡ length old → length new ≡ k → length old ≡ k → length (take n (new ++ drop (length new) old)) ≡ k
written_length n k new old en ek eo =
    let h : length (drop (length new) old) ≡ 0 = length-drop (length new) old ∙ omega arith in
    length-take n (new ++ drop (length new) old) ∙ omega (arith, length-append new (drop (length new) old))

-- and what was written, all of it
pub written : {X : Type 0} (n : ℕ) (new old : List X) → n ≡ length old → length new ≡ length old → take n (new ++ drop (length new) old) ≡ new
written n new old en e =
    ap (λ rest. take n (new ++ rest)) (drop_all (length new) old (omega arith)) ∙ ap (take n) (append-nil new) ∙ take_all n new (omega arith)

pub before_in : (t : Trellis) → 0 < t.width → (i q : ℕ) → q < states t → before t i q < states t
unfolding before
before_in t some i q h =
    elim (cases_Bool (ltb (by_1 t i (best t i) q) (by_0 t i (best t i) q))) [
      | inl e ↦ rw e (before_1_in t some q h)
      | inr e ↦ rw e (before_0_in t q h)
    ]

-- a total, as it is made of a tail and the last row
module _ (t : Trellis) (fine : IsBounded t) (q : ℕ) (row : List ℕ) (e : row ≡ best_row t t.levels) (h : q < states t) where
  pub total_in : q < length row
  total_in = rw (e, row_length) h

  value : get_or row q 0 ≡ best t t.levels q
  value = ap (λ l. get_or l q 0) e ∙ row_at t t.levels q h

  pub total_is : (s : ℕ) → s ≡ t.tail q → s + get_or row q 0 ≡ total t q
  total_is s es = omega (arith, value)

  pub total_fits : (s : ℕ) → s ≡ t.tail q → s + get_or row q 0 < 2 ^ 64
  total_fits s es = omega (arith, value, best_le t fine.some_state t.levels q, fine.tail_in q h)

-- the row of totals, as it is read
pub total_at : (t : Trellis) (row : List ℕ) → row ≡ total_row t → (q : ℕ) → q < states t → get_or row q 0 ≡ total t q
unfolding total_row
total_at t row e q h = ap (λ l. get_or l q 0) e ∙ get_or-map-range_with_len (total t) 0 (states t) q q 0 h (omega arith)

pub totals_length : (t : Trellis) → length (total_row t) ≡ states t
unfolding total_row
totals_length t = length-map-range_with_len (total t) 0 (states t)

pub totals_are : (t : Trellis) (row : List ℕ) → length row ≡ states t → ((q : ℕ) → q < states t → get_or row q 0 ≡ total t q) → row ≡ total_row t
unfolding total_row
totals_are t row long each = fill_by_all (total t) row (states t) 0 long each

-- a step on the way back
pub traced_step : (t : Trellis) (i q : ℕ) (bits whole : List Bool) → 0 < i → bits ++ traced t i q ≡ whole → (bits ++ (newest q ∷ [])) ++ traced t (i - 1) (before t (i - 1) q) ≡ whole
unfolding traced
traced_step t zero q bits whole h e = absurd (omega arith)
traced_step t (suc i) q bits whole h e =
    let n : suc i - 1 ≡ i = omega arith in
    rw (n, append_assoc) e

-- the end state
pub stride_is : (w n : ℕ) → n ≤ w → 2 ^ w / 2 ^ n ≡ 2 ^ (w - n)
stride_is w n h =
    let e : w - n + n ≡ w = omega arith in
    ap (λ k. 2 ^ k / 2 ^ n) (sym e) ∙ rw (pow-add 2 (w - n) n) (mul-div_left (2 ^ (w - n)) (pow_pos n))

pub final_zero : (t : Trellis) (n q : ℕ) → n ≡ 0 → q ≡ final t n q
unfolding final
final_zero t n q e = rw e refl

pub final_takes_1 : (t : Trellis) (n q s a b : ℕ) → 0 < n → s ≡ 2 ^ (t.width - n) → a ≡ final t (n - 1) q → b ≡ final t (n - 1) (q + s) → total t b < total t a → b ≡ final t n q
unfolding final
final_takes_1 t zero q s a b h es ea eb lt = absurd (omega arith)
final_takes_1 t (suc n) q s a b h es ea eb lt =
    let e1 : suc n - 1 ≡ n = omega arith in
    let fa : final t n q ≡ a = sym (ea ∙ ap (λ k. final t k q) e1) in
    let fb : final t n (q + 2 ^ (t.width - suc n)) ≡ b = sym (eb ∙ ap (λ k. final t k (q + s)) e1 ∙ ap (λ k. final t n (q + k)) es) in
    rw (fa, fb, lt-ltb (total t b) (total t a) lt)

pub final_takes_0 : (t : Trellis) (n q s a b : ℕ) → 0 < n → s ≡ 2 ^ (t.width - n) → a ≡ final t (n - 1) q → b ≡ final t (n - 1) (q + s) → total t a ≤ total t b → a ≡ final t n q
unfolding final
final_takes_0 t zero q s a b h es ea eb le = absurd (omega arith)
final_takes_0 t (suc n) q s a b h es ea eb le =
    let e1 : suc n - 1 ≡ n = omega arith in
    let fa : final t n q ≡ a = sym (ea ∙ ap (λ k. final t k q) e1) in
    let fb : final t n (q + 2 ^ (t.width - suc n)) ≡ b = sym (eb ∙ ap (λ k. final t k (q + s)) e1 ∙ ap (λ k. final t n (q + k)) es) in
    rw (fa, fb, le-ltb (total t b) (total t a) le)

pow_le_2 : (i j : ℕ) → i ≤ j → 2 ^ i ≤ 2 ^ j
pow_le_2 i j h = let two : 0 < 2 = omega arith in pow-le-pow_right two h

pub shift_in : (w r n : ℕ) → n ≡ 2 ^ w → n < 2 ^ 64 → r ≤ w → r < 64
shift_in w r n e h le =
    elim (cases_lt r 64) [
      | inl lt ↦ lt
      | inr ge ↦ let f : 2 ^ 64 ≤ 2 ^ w = pow_le_2 64 w (omega arith) in absurd (omega arith)
    ]

-- one bit less is open
pub opened : (w r low n : ℕ) → 0 < r → r ≤ w → low < 2 ^ (w - r) → n ≡ 2 ^ w → (low < 2 ^ (w - (r - 1))) × (low + n / 2 ^ r < 2 ^ (w - (r - 1))) × (low + n / 2 ^ r < 2 ^ w)
opened w r low n pos le h en =
    let e : w - (r - 1) ≡ suc (w - r) = omega arith in
    let s : n / 2 ^ r ≡ 2 ^ (w - r) = rw en (stride_is w r le) in
    let d : 2 ^ (w - (r - 1)) ≡ 2 ^ (w - r) + 2 ^ (w - r) = rw e (two-pow-succ (w - r)) in
    let m : 2 ^ (w - (r - 1)) ≤ 2 ^ w = pow_le_2 (w - (r - 1)) w (omega arith) in
    (omega arith, omega arith, omega arith)

pub stride_at : (w r n : ℕ) → n ≡ 2 ^ w → r ≤ w → n / 2 ^ r ≡ 2 ^ (w - r)
stride_at w r n e h = rw e (stride_is w r h)

pub returned : (t : Trellis) (i q : ℕ) (bits whole : List Bool) → i ≡ 0 → bits ++ traced t i q ≡ whole → bits ≡ whole
unfolding traced
returned t i q bits whole z e = sym (append-nil bits) ∙ ap (λ k. bits ++ traced t k q) (sym z) ∙ e
