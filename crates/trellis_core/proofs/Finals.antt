-- The end state that is chosen, and what the bits on the way back from it are.
use Rattle.std.proofs.Common.{◌≡◌, ℕ, zero, suc, ◌+◌, ◌*◌, ◌-◌, ◌/◌, ◌%◌, ◌^◌, ◌<◌, ◌≤◌, ◌⊎◌, Bool, false, ltb, List, [], ◌++◌, reverse, length, replicate, refl, sym, ap, subst, ◌∙◌, inl, inr, arith}
use Rattle.std.proofs.lemmas.Nat.{mod-pow-add}
use Rattle.std.proofs.lemmas.List.{reverse-reverse, length-reverse, append-nil}
use Rattle.std.proofs.Math.Pow.{mod-mod-pow}
use Rattle.std.proofs.Math.ListN.{length-replicate}
use Rattle.std.proofs.Math.Nat.{mod-eq_of_lt, two-pow-succ, add-mod_right}
use Rattle.std.proofs.lemmas.Bool.{cases_Bool, cases_eq, ltb-true, ltb-false}
use Rattle.cost_core.specs.Trellis.{Trellis, states, cost, IsBounded}
use Rattle.cost_core.specs.Least.{IsLeast, IsFirstLeast, NotAfter}
use Rattle.cost_core.proofs.Walks.{cost_from-none}
use Rattle.trellis_core.specs.Best.{best, traced, total, final}
use Rattle.trellis_core.proofs.Back.{back_state, back_cost, back_below, cost_back, apart}
use Rattle.trellis_core.proofs.Bests.{best_below, traced_length, traced_gives, traced_first}

-- one bit more of a number
one_more : (x k : ℕ) → (x % 2 ^ suc k ≡ x % 2 ^ k) ⊎ (x % 2 ^ suc k ≡ x % 2 ^ k + 2 ^ k)
one_more x k =
    let e : x % 2 ^ suc k ≡ (x / 2 ^ k % 2 ^ 1) * 2 ^ k + x % 2 ^ k = ap (λ n. x % 2 ^ n) (let f : suc k ≡ 1 + k = omega arith in f) ∙ mod-pow-add x 1 k in
    elim (cases_eq (x / 2 ^ k % 2 ^ 1) 0) [
      | inl z ↦ inl (e ∙ rw z (omega arith))
      | inr nz ↦ let o : x / 2 ^ k % 2 ^ 1 ≡ 1 = omega arith in inr (e ∙ rw o (omega arith))
    ]

one_less : (x k : ℕ) → x % 2 ^ suc k % 2 ^ k ≡ x % 2 ^ k
one_less x k = ap (λ n. x % 2 ^ n % 2 ^ k) (let f : suc k ≡ 1 + k = omega arith in f) ∙ mod-mod-pow x 1 k

module _ (t : Trellis) (fine : IsBounded t) where
  -- the sum of all terms, for bits from the newest
  abbrev whole : List Bool → ℕ
  whole r = back_cost t r + t.tail (back_state t r)

  -- the chosen state has the low bits that it was chosen among
  pub final_in : (n k q : ℕ) → n + k ≡ t.width → q < 2 ^ k → (final t n q < states t) × (final t n q % 2 ^ k ≡ q)
  unfolding final
  final_in zero k q e h =
      let ek : k ≡ t.width = omega arith in
      (rw (← ek) h, mod-eq_of_lt h)
  final_in (suc n) k q e h =
      let ek : t.width - suc n ≡ k = omega arith in
      let e1 : n + suc k ≡ t.width = omega arith in
      let a = final t n q in
      let b = final t n (q + 2 ^ k) in
      let wa = final_in n (suc k) q e1 (omega (arith, two-pow-succ k)) in
      let wb = final_in n (suc k) (q + 2 ^ k) e1 (omega (arith, two-pow-succ k)) in
      let ma : a % 2 ^ k ≡ q = sym (one_less a k) ∙ ap (λ m. m % 2 ^ k) wa.1 ∙ mod-eq_of_lt h in
      let mb : b % 2 ^ k ≡ q = sym (one_less b k) ∙ ap (λ m. m % 2 ^ k) wb.1 ∙ add-mod_right q (2 ^ k) ∙ mod-eq_of_lt h in
      rw ek (elim (cases_Bool (ltb (total t b) (total t a))) [
        | inl c ↦ rw c (wb.0, mb)
        | inr c ↦ rw c (wa.0, ma)
      ])

  abbrev Chosen : ℕ → List Bool → Type 0
  Chosen f r = (total t f ≤ whole r) × (total t f ≡ whole r → whole r < 2 ^ 63 → NotAfter (traced t t.levels f) r)

  final_first : (n k q : ℕ) → n + k ≡ t.width → q < 2 ^ k → (r : List Bool) → length r ≡ t.levels → back_state t r % 2 ^ k ≡ q → Chosen (final t n q) r
  unfolding final
  final_first zero k q e h r n m =
      let ek : k ≡ t.width = omega arith in
      let same : back_state t r ≡ q = sym (mod-eq_of_lt (back_below t fine.start_in r)) ∙ (ap (λ j. back_state t r % 2 ^ j) (sym ek) ∙ m) in
      let eb : best t t.levels q ≡ best t (length r) (back_state t r) = ap (λ j. best t j q) (sym n) ∙ ap (best t (length r)) (sym same) in
      let et : traced t (length r) (back_state t r) ≡ traced t t.levels q = ap (traced t (length r)) same ∙ ap (λ j. traced t j q) n in
      let low = best_below t fine.some_state fine.start_in r in
      let tails : t.tail (back_state t r) ≡ t.tail q = ap t.tail same in (
        omega arith,
        λ tie fin.
            subst (λ l. NotAfter l r) et (traced_first t fine.some_state fine.start_in r (omega arith) (omega arith)),
      )
  final_first (suc n) k q e h r len m =
      let ek : t.width - suc n ≡ k = omega arith in
      let e1 : n + suc k ≡ t.width = omega arith in
      let a = final t n q in
      let b = final t n (q + 2 ^ k) in
      let qa : q < 2 ^ suc k = omega (arith, two-pow-succ k) in
      let qb : q + 2 ^ k < 2 ^ suc k = omega (arith, two-pow-succ k) in
      let x = back_state t r in
      rw ek (elim (cases_Bool (ltb (total t b) (total t a))) [
        | inl c ↦ rw c (
            let lt = ltb-true (total t b) (total t a) c in
            elim (one_more x k) [
              | inl low ↦ let w = final_first n (suc k) q e1 qa r len (low ∙ m) in (omega arith, λ tie fin. absurd (omega arith))
              | inr high ↦ final_first n (suc k) (q + 2 ^ k) e1 qb r len (omega arith)
            ])
        | inr c ↦ rw c (
            let le = ltb-false (total t b) (total t a) c in
            elim (one_more x k) [
              | inl low ↦ final_first n (suc k) q e1 qa r len (low ∙ m)
              | inr high ↦
                  let w = final_first n (suc k) (q + 2 ^ k) e1 qb r len (omega arith) in
                  let wa = final_in n (suc k) q e1 qa in (
                    omega arith,
                    λ tie fin.
                        let v = traced_gives t fine.some_state t.levels a wa.0 (omega arith) in
                        let at : back_state t (traced t t.levels a) % 2 ^ suc k ≡ q = rw v.0 wa.1 in
                        apart t k (traced t t.levels a) r (traced_length t fine.some_state t.levels a ∙ sym len) (omega arith) (omega arith),
                  )
            ])
      ])

  -- every list of bits, by its bits from the newest
  cost_whole : (y : List Bool) → cost t y ≡ whole (reverse y)
  cost_whole y =
      let e : reverse (reverse y) ++ [] ≡ y = append-nil (reverse (reverse y)) ∙ reverse-reverse y in
      ap (cost t) (sym e) ∙ cost_back t (reverse y) [] ∙ ap (λ n. back_cost t (reverse y) + n) (cost_from-none t _ _)

  end : ℕ
  end = final t t.width 0

  end_in : end < states t
  unfolding end
  end_in = (final_in t.width 0 0 (omega arith) (omega arith)).0

  end_chosen : (r : List Bool) → length r ≡ t.levels → Chosen end r
  unfolding end
  end_chosen r e = final_first t.width 0 0 (omega arith) (omega arith) r e (omega arith)

  end_finite : total t end < 2 ^ 63
  end_finite =
      let y = replicate t.levels false in
      let n : length (reverse y) ≡ t.levels = length-reverse y ∙ length-replicate t.levels false in
      let c = end_chosen (reverse y) n in
      omega (arith, c.0, fine.cost_in y (length-replicate t.levels false), cost_whole y)

  way : List Bool
  way = traced t t.levels end

  way_length : length way ≡ t.levels
  unfolding way
  way_length = traced_length t fine.some_state t.levels end

  way_whole : whole way ≡ total t end
  unfolding way
  way_whole =
      let v = traced_gives t fine.some_state t.levels end end_in (omega (arith, end_finite)) in
      rw (v.0, v.1) refl

  -- the bits that are chosen
  abbrev chosen : List Bool
  chosen = reverse way

  chosen_cost : cost t chosen ≡ total t end
  chosen_cost = cost_whole (reverse way) ∙ ap whole (reverse-reverse way) ∙ way_whole

  chosen_least : IsLeast t.levels (cost t) chosen
  chosen_least = record {
    long = length-reverse way ∙ way_length;
    least = λ y ey. omega (arith, chosen_cost, cost_whole y, (end_chosen (reverse y) (length-reverse y ∙ ey)).0);
  }

  chosen_first_least : IsFirstLeast t.levels (cost t) chosen
  unfolding way
  chosen_first_least = record {
    is_least = chosen_least;
    first = λ y ey tie.
        let c = end_chosen (reverse y) (length-reverse y ∙ ey) in
        let f : NotAfter way (reverse y) = c.1 (omega (arith, chosen_cost, cost_whole y)) (omega (arith, fine.cost_in y ey, cost_whole y)) in
        subst (λ l. NotAfter l (reverse y)) (sym (reverse-reverse way)) f;
  }

  -- bits that were read off backwards, from the end that was chosen among all states
  module _ (bits newest_first : List Bool) (last width : ℕ) (ew : width ≡ t.width) (el : last ≡ final t width 0) (en : newest_first ≡ traced t t.levels last) (eb : bits ≡ reverse newest_first) where
    last_is : last ≡ end
    unfolding end
    last_is = el ∙ ap (λ n. final t n 0) ew

    bits_are : bits ≡ chosen
    unfolding way
    bits_are = eb ∙ ap reverse (en ∙ ap (traced t t.levels) last_is)

    pub is_first_least : IsFirstLeast t.levels (cost t) bits
    is_first_least = subst (IsFirstLeast t.levels (cost t)) (sym bits_are) chosen_first_least

    pub is_its_cost : (v : ℕ) → v ≡ total t last → v ≡ cost t bits
    is_its_cost v ev = ev ∙ ap (total t) last_is ∙ sym chosen_cost ∙ ap (cost t) (sym bits_are)
