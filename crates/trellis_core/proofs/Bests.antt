-- Least sums by two predecessors are least over all walks, and the way back through them comes first.
use Rattle.std.proofs.Common.{◌≡◌, ℕ, zero, suc, ◌+◌, ◌-◌, ◌%◌, ◌^◌, ◌<◌, ◌≤◌, ◌⊎◌, Bool, true, false, eqb, ltb, List, [], ◌∷◌, length, refl, sym, ap, ◌∙◌, inl, inr, arith}
use Rattle.std.proofs.Math.Nat.{mod-eq_of_lt}
use Rattle.std.proofs.lemmas.Bool.{cases_Bool, eq-eqb, eqb-true, eqb-false, ne_eqb, ltb-true, ltb-false}
use Rattle.cost_core.specs.Trellis.{Trellis, digit, states, next, newest, before_by_0, before_by_1}
use Rattle.cost_core.specs.Least.{NotAfter}
use Rattle.cost_core.proofs.Numbers.{pow_double, shift_low, shift_high, unshift}
use Rattle.cost_core.proofs.Walks.{digit_below, next_below}
use Rattle.trellis_core.specs.Best.{by_0, by_1, best, before, traced}
use Rattle.trellis_core.proofs.Back.{back_state, back_cost, back_below, apart}

newest_digit : (q : ℕ) → digit (newest q) ≡ q % 2
newest_digit q =
    elim (cases_Bool (newest q)) [
      | inl e ↦ ap digit e ∙ sym (eqb-true (q % 2) 1 e)
      | inr e ↦ let ne = eqb-false (q % 2) 1 e in ap digit e ∙ omega arith
    ]

newest_is : (q : ℕ) (b : Bool) → q % 2 ≡ digit b → newest q ≡ b
newest_is q false e = ne_eqb (q % 2) 1 (λ f. omega arith)
newest_is q true e = eq-eqb (q % 2) 1 e

same_head : (a b : Bool) (r s : List Bool) → a ≡ b → NotAfter r s → NotAfter (a ∷ r) (b ∷ s)
unfolding NotAfter
same_head false false r s e h = h
same_head true true r s e h = h
same_head false true r s e h = tt
same_head true false r s e h = cc

module _ (t : Trellis) (some : 0 < t.width) where
  halves : states t ≡ 2 ^ (t.width - 1) + 2 ^ (t.width - 1)
  halves = pow_double t.width some

  pub before_0_below : (q : ℕ) → q < states t → before_by_0 t.width q < 2 ^ (t.width - 1)
  before_0_below q h = omega (arith, halves)

  pub next_before_0 : (q : ℕ) → q < states t → next t.width (before_by_0 t.width q) (newest q) ≡ q
  next_before_0 q h =
      rw halves (shift_low _ _ _ (before_0_below q h) (digit_below (newest q)) ∙ omega (arith, newest_digit q))

  pub next_before_1 : (q : ℕ) → q < states t → next t.width (before_by_1 t.width q) (newest q) ≡ q
  next_before_1 q h =
      rw halves (shift_high _ _ _ (before_0_below q h) (digit_below (newest q)) ∙ omega (arith, newest_digit q))

  -- the states before a state
  pub before_next : (p : ℕ) (b : Bool) → p < states t → (newest (next t.width p b) ≡ b) × ((p ≡ before_by_0 t.width (next t.width p b)) ⊎ (p ≡ before_by_1 t.width (next t.width p b)))
  before_next p b h =
      let w = unshift (2 ^ (t.width - 1)) p (digit b) (next t.width p b) (omega (arith, halves)) (digit_below b) (rw halves refl) in
      (newest_is (next t.width p b) b w.0, w.1)

  pub best_le : (i q : ℕ) → best t i q ≤ 2 ^ 63
  unfolding best
  best_le zero q = elim (cases_Bool (eqb q t.start)) [ inl e ↦ rw e (omega arith) | inr e ↦ rw e (omega arith) ]
  best_le (suc i) q = omega arith

  pub best_start : best t 0 t.start ≡ 0
  unfolding best
  best_start = rw (eq-eqb t.start t.start refl) refl

  best_suc : (i p : ℕ) (b : Bool) → p < states t → best t (suc i) (next t.width p b) ≤ best t i p + t.step i p b
  unfolding best
  best_suc i p b h =
      let w = before_next p b h in
      elim w.1 [
        | inl e ↦ let f : by_0 t i (best t i) (next t.width p b) ≡ best t i p + t.step i p b = rw (sym e, w.0) refl in omega (arith, f)
        | inr e ↦ let f : by_1 t i (best t i) (next t.width p b) ≡ best t i p + t.step i p b = rw (sym e, w.0) refl in omega (arith, f)
      ]

  -- what the choice on the way back gives
  before_gives : (i q : ℕ) → q < states t → best t (suc i) q < 2 ^ 63 →
      (before t i q < states t) × (next t.width (before t i q) (newest q) ≡ q) × (best t i (before t i q) + t.step i (before t i q) (newest q) ≡ best t (suc i) q)
  unfolding best before
  before_gives i q h fin =
      let c0 = by_0 t i (best t i) q in
      let c1 = by_1 t i (best t i) q in
      let low = before_0_below q h in
      elim (cases_Bool (ltb c1 c0)) [
        | inl e ↦ let lt = ltb-true c1 c0 e in rw e (omega (arith, halves), next_before_1 q h, omega arith)
        | inr e ↦ let le = ltb-false c1 c0 e in rw e (omega (arith, halves), next_before_0 q h, omega arith)
      ]

  pub traced_length : (i q : ℕ) → length (traced t i q) ≡ i
  unfolding traced
  traced_length zero q = refl
  traced_length (suc i) q = ap suc (traced_length i (before t i q))

  -- a sum below 2 ^ 63 is that of the bits on the way back
  pub traced_gives : (i q : ℕ) → q < states t → best t i q < 2 ^ 63 → (back_state t (traced t i q) ≡ q) × (back_cost t (traced t i q) ≡ best t i q)
  unfolding traced
  traced_gives zero q h fin = unfold best in
      elim (cases_Bool (eqb q t.start)) [ inl e ↦ (sym (eqb-true q t.start e), rw e refl) | inr e ↦ let f = rw e at fin in absurd (omega arith) ]
  traced_gives (suc i) q h fin =
      let w = before_gives i q h fin in
      let p = before t i q in
      let v = traced_gives i p w.0 (omega arith) in
      let n = traced_length i p in
      (rw v.0 w.1, rw (v.0, v.1, n) w.2)

  module _ (inside : t.start < states t) where
    -- no walk costs less than the best of its end
    pub best_below : (r : List Bool) → best t (length r) (back_state t r) ≤ back_cost t r
    best_below [] = omega (arith, best_start)
    best_below (b ∷ r) =
        omega (arith, best_below r, best_suc (length r) (back_state t r) b (back_below t inside r))

    choice : (i q : ℕ) → ((before t i q ≡ before_by_0 t.width q) × (by_0 t i (best t i) q ≤ by_1 t i (best t i) q)) ⊎ ((before t i q ≡ before_by_1 t.width q) × (by_1 t i (best t i) q < by_0 t i (best t i) q))
    unfolding before
    choice i q =
        let c0 = by_0 t i (best t i) q in
        let c1 = by_1 t i (best t i) q in
        elim (cases_Bool (ltb c1 c0)) [
          | inl e ↦ inr (rw e refl, ltb-true c1 c0 e)
          | inr e ↦ inl (rw e refl, ltb-false c1 c0 e)
        ]

    rest_first : (i q p : ℕ) (r : List Bool) → q < states t → length r ≡ i → back_state t r ≡ p → (p ≡ before_by_0 t.width q) ⊎ (p ≡ before_by_1 t.width q) →
        back_cost t r ≡ best t i p → best t i p + t.step i p (newest q) ≡ best t (suc i) q → best t (suc i) q < 2 ^ 63 →
        NotAfter (traced t i p) r → NotAfter (traced t i (before t i q)) r
    rest_first i q p r hq n at side here sum fin ih =
        let g = before_gives i q hq fin in
        elim (choice i q) [
          | inl c ↦ elim side [
            | inl e0 ↦ rw (c.0, ← e0) ih
            | inr e1 ↦
                let p0 = before_by_0 t.width q in
                let w = t.width - 1 in
                let ew : suc w ≡ t.width = omega arith in
                let low0 = before_0_below q hq in
                let g1 : best t i p0 + t.step i p0 (newest q) ≡ best t (suc i) q = rw c.0 at g.2 in
                let v = traced_gives i p0 (omega (arith, halves)) (omega arith) in
                let m0 : back_state t (traced t i p0) % 2 ^ suc w ≡ p0 = rw (v.0, ew) (mod-eq_of_lt (omega (arith, halves))) in
                let m1 : back_state t r % 2 ^ suc w ≡ p = rw (at, ew) (mod-eq_of_lt (omega (arith, halves))) in
                let n0 : length (traced t i p0) ≡ length r = traced_length i p0 ∙ sym n in
                let same : back_state t (traced t i p0) % 2 ^ suc w + 2 ^ w ≡ back_state t r % 2 ^ suc w = omega arith in
                rw c.0 (apart t w (traced t i p0) r n0 (omega arith) same)
          ]
          | inr c ↦ elim side [
            | inl e0 ↦
                let g1 : best t i (before_by_1 t.width q) + t.step i (before_by_1 t.width q) (newest q) ≡ best t (suc i) q = rw c.0 at g.2 in
                let g0 : best t i (before_by_0 t.width q) + t.step i (before_by_0 t.width q) (newest q) ≡ best t (suc i) q = rw e0 at sum in
                absurd (omega arith)
            | inr e1 ↦ rw (c.0, ← e1) ih
          ]
        ]

    -- the bits on the way back come first among the walks of that cost
    pub traced_first : (r : List Bool) → back_cost t r ≡ best t (length r) (back_state t r) → back_cost t r < 2 ^ 63 → NotAfter (traced t (length r) (back_state t r)) r
    unfolding traced NotAfter
    traced_first [] e fin = tt
    traced_first (b ∷ r) e fin =
        let i = length r in
        let p = back_state t r in
        let hp = back_below t inside r in
        let q = next t.width p b in
        let hq = next_below t p b in
        let w = before_next p b hp in
        let fin_q : best t (suc i) q < 2 ^ 63 = omega arith in
        let g = before_gives i q hq fin_q in
        let s = best_suc i p b hp in
        let here : back_cost t r ≡ best t i p = omega (arith, best_below r) in
        let sum : best t i p + t.step i p (newest q) ≡ best t (suc i) q = rw w.0 (omega arith) in
        let rest = rest_first i q p r hq refl refl w.1 here sum fin_q (traced_first r here (omega arith)) in
        same_head (newest q) b (traced t i (before t i q)) r w.0 rest
