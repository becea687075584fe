-- The cost by states is the sum over places.
use Rattle.std.proofs.Common.{◌≡◌, ℕ, zero, suc, ◌+◌, ◌*◌, ◌-◌, ◌/◌, ◌%◌, ◌^◌, ◌<◌, ◌≤◌, Bool, true, false, eqb, List, [], ◌∷◌, ◌++◌, length, get_or, sum_by, refl, sym, ap, subst, ◌∙◌, arith, append_assoc, ℤ, pos, ◌-ℤ◌, ◌*ℤ◌}
use Rattle.std.specs.List.{range_with_len}
use Rattle.std.proofs.Math.Seq.{get_or-append_seam}
use Rattle.std.proofs.lemmas.List.{length-append}
use Rattle.std.proofs.lemmas.List.Sums.{sum_by-cons}
use Rattle.std.proofs.lemmas.Bool.{eq-eqb, ne_eqb}
use Rattle.cost_core.specs.Trellis.{digit, next, state_after, steps, cost, cost_from}
use Rattle.cost_core.specs.Weighted.{weighted, weighted_code, square}
use Rattle.cost_core.specs.Bridges.{Bridging, target, term, places_cost, bridge_cost}
use Rattle.cost_core.specs.StateCosts.{deviation, step_of, trellis_of, StepsAreCost}
use Rattle.cost_core.proofs.Numbers.{mod_low, div_twice}
use Rattle.cost_core.proofs.SumLaws.{weighed_same}
use Rattle.cost_core.proofs.Walks.{digit_below, cost_from-none, cost_from-cons}

-- the m lowest digits of c are z[n], z[n - 1] and so on
abbrev Agrees : ℕ → ℕ → List Bool → ℕ → Type 0
Agrees zero c z n = Unit {0}
Agrees (suc m) c z n = (c % 2 ≡ digit (get_or z n false)) × Agrees m (c / 2) z (n - 1)

odd_is : (c : ℕ) (bit : Bool) → c % 2 ≡ digit bit → eqb (c % 2) 1 ≡ bit
odd_is c false e = ne_eqb (c % 2) 1 (λ f. omega arith)
odd_is c true e = eq-eqb (c % 2) 1 e

digit_at : (m c : ℕ) (z : List Bool) (n : ℕ) → Agrees m c z n → (k : ℕ) → k < m → eqb (c / 2 ^ k % 2) 1 ≡ get_or z (n - k) false
digit_at zero c z n a k h = absurd (omega arith)
digit_at (suc m) c z n a zero h =
    let e : c / 2 ^ 0 ≡ c = omega arith in
    let f : n - 0 ≡ n = omega arith in
    rw (e, f) (odd_is c (get_or z n false) a.0)
digit_at (suc m) c z n a (suc k) h =
    let f : n - suc k ≡ n - 1 - k = omega arith in
    rw (div_twice c k, f) (digit_at m (c / 2) z (n - 1) a.1 k (omega arith))

code_weighted : (weights : List ℤ) (c : ℕ) (z : List Bool) (n : ℕ) → Agrees (length weights) c z n → weighted_code weights c ≡ weighted weights z n
unfolding weighted_code weighted
code_weighted weights c z n a = weighed_same weights (λ k. eqb (c / 2 ^ k % 2) 1) (λ k. get_or z (n - k) false) (digit_at (length weights) c z n a)

Agrees-mod : (m w c : ℕ) (z : List Bool) (n : ℕ) → m ≤ w → Agrees m c z n → Agrees m (c % 2 ^ w) z n
Agrees-mod zero w c z n h a = tt
Agrees-mod (suc m) zero c z n h a = absurd (omega arith)
Agrees-mod (suc m) (suc w) c z n h a =
    let e = mod_low c w in
    let lo : c % 2 ^ suc w % 2 ≡ c % 2 = omega arith in
    let hi : c % 2 ^ suc w / 2 ≡ c / 2 % 2 ^ w = omega arith in
    (lo ∙ a.0, rw hi (Agrees-mod m w (c / 2) z (n - 1) (omega arith) a.1))

-- one bit more
Agrees-next : (m q : ℕ) (bit : Bool) (u y : List Bool) (n : ℕ) → n ≡ length u → Agrees m q (u ++ (bit ∷ y)) (n - 1) → Agrees (suc m) (2 * q + digit bit) (u ++ (bit ∷ y)) n
Agrees-next m q bit u y n e a =
    let lt = digit_below bit in
    let at : get_or (u ++ (bit ∷ y)) n false ≡ bit = rw e (get_or-append_seam u bit y false) in
    let lo : (2 * q + digit bit) % 2 ≡ digit bit = omega arith in
    let hi : (2 * q + digit bit) / 2 ≡ q = omega arith in
    (lo ∙ ap digit (sym at), rw hi a)

Agrees-less : (m c : ℕ) (z : List Bool) (n : ℕ) → Agrees (suc m) c z n → Agrees m c z n
Agrees-less zero c z n a = tt
Agrees-less (suc m) c z n a = (a.0, Agrees-less m (c / 2) z (n - 1) a.1)

moved : (u y : List Bool) (bit : Bool) → u ++ (bit ∷ y) ≡ (u ++ (bit ∷ [])) ++ y
moved u y bit = sym (append_assoc u (bit ∷ []) y)

Agrees-at : (m k c : ℕ) (z y : List Bool) (n j : ℕ) → m ≡ k → z ≡ y → n ≡ j → Agrees m c z n → Agrees k c y j
Agrees-at m k c z y n j em ez en a = subst (λ v. Agrees v c y j) em (subst (λ v. Agrees m c v j) ez (subst (Agrees m c z) en a))

term_at : (d : Bridging) (z : List Bool) (level n q : ℕ) (bit : Bool) → length d.preceding + (level + 1 - 1) ≡ n → Agrees (length d.weights) (2 * q + digit bit) z n → step_of d level q bit ≡ term d z (length d.preceding) (level + 1)
unfolding deviation term
term_at d z level n q bit e a =
    ap (λ v. square ((pos (d.levels + 1) *ℤ v) -ℤ target d (level + 1))) (code_weighted d.weights (2 * q + digit bit) z n a ∙ ap (weighted d.weights z) (sym e))

-- steps by states are terms by places
steps_terms : (d : Bridging) → suc (length d.preceding) ≡ length d.weights → (y u : List Bool) (level q : ℕ) → length u ≡ length d.preceding + level → Agrees (length d.preceding) q (u ++ y) (length u - 1) →
    steps (length d.preceding) (step_of d) level q y ≡ sum_by (term d (u ++ y) (length d.preceding)) (range_with_len (level + 1) (length y))
unfolding steps
steps_terms d many [] u level q e a = refl
steps_terms d many (bit ∷ y) u level q e a =
    let w = length d.preceding in
    let z = u ++ (bit ∷ y) in
    let n : w + (level + 1 - 1) ≡ length u = omega arith in
    let a1 : Agrees (suc w) (2 * q + digit bit) z (length u) = Agrees-next w q bit u y (length u) refl a in
    let first = term_at d z level (length u) q bit n (rw (← many) a1) in
    let v = u ++ (bit ∷ []) in
    let ev : length v ≡ w + (level + 1) = length-append u (bit ∷ []) ∙ omega arith in
    let em : length u ≡ length v - 1 = omega arith in
    let a2 = Agrees-mod w w (2 * q + digit bit) z (length u) (omega arith) (Agrees-less w (2 * q + digit bit) z (length u) a1) in
    let a3 = Agrees-at w w (next w q bit) z (v ++ y) (length u) (length v - 1) refl (moved u y bit) em a2 in
    let rest = steps_terms d many y v (level + 1) (next w q bit) ev a3 in
    rw (first, rest) (ap (λ l. term d z w (level + 1) + sum_by (term d l w) (range_with_len (level + 1 + 1) (length y))) (sym (moved u y bit)) ∙ sym (sum_by-cons (term d z w) (level + 1) (range_with_len (level + 1 + 1) (length y))))

-- what was read before the bridge
read_agrees : (w : ℕ) (y u rest : List Bool) (q : ℕ) → length u + length y ≤ w → Agrees (length u) q (u ++ (y ++ rest)) (length u - 1) →
    Agrees (length u + length y) (state_after w q y) (u ++ (y ++ rest)) (length u + length y - 1)
unfolding state_after
read_agrees w [] u rest q h a = Agrees-at (length u) (length u + 0) q (u ++ rest) (u ++ rest) (length u - 1) (length u + 0 - 1) (omega arith) refl (omega arith) a
read_agrees w (bit ∷ y) u rest q h a =
    let m = length u in
    let z = u ++ (bit ∷ (y ++ rest)) in
    let v = u ++ (bit ∷ []) in
    let q1 = next w q bit in
    let n : length v ≡ m + 1 = length-append u (bit ∷ []) in
    let a1 = Agrees-mod (suc m) w (2 * q + digit bit) z m (omega arith) (Agrees-next m q bit u (y ++ rest) m refl a) in
    let a2 = Agrees-at (suc m) (length v) q1 z (v ++ (y ++ rest)) m (length v - 1) (omega arith) (moved u (y ++ rest) bit) (omega arith) a1 in
    let a3 = read_agrees w y v rest q1 (omega arith) a2 in
    Agrees-at (length v + length y) (m + suc (length y)) (state_after w q1 y) (v ++ (y ++ rest)) z (length v + length y - 1) (m + suc (length y) - 1)
    (omega arith) (sym (moved u (y ++ rest) bit)) (omega arith) a3

-- the end costs the steps along the bits after the bridge
steps_and_tail : (d : Bridging) (x : List Bool) (level q : ℕ) → level + length x ≡ d.levels → cost_from (trellis_of d) level q x ≡ steps (length d.preceding) (step_of d) level q (x ++ d.following)
unfolding steps
steps_and_tail d [] level q e =
    let at : d.levels ≡ level = omega arith in
    cost_from-none (trellis_of d) level q ∙ ap (λ n. steps (length d.preceding) (step_of d) n q d.following) at
steps_and_tail d (bit ∷ x) level q e =
    cost_from-cons (trellis_of d) level q bit x ∙ ap (λ n. step_of d level q bit + n) (steps_and_tail d x (level + 1) (next (length d.preceding) q bit) (omega arith))

pub cost_steps : (d : Bridging) (x : List Bool) → length x ≡ d.levels → cost (trellis_of d) x ≡ steps (length d.preceding) (step_of d) 0 (state_after (length d.preceding) 0 d.preceding) (x ++ d.following)
unfolding cost
cost_steps d x e = steps_and_tail d x 0 (state_after (length d.preceding) 0 d.preceding) (omega arith)

pub cost_is : (d : Bridging) (x : List Bool) → suc (length d.preceding) ≡ length d.weights → length x ≡ d.levels → cost (trellis_of d) x ≡ bridge_cost d x
unfolding bridge_cost places_cost
cost_is d x many e =
    let w = length d.preceding in
    let y = x ++ d.following in
    let q = state_after w 0 d.preceding in
    let zero_w : 0 + w ≡ w = omega arith in
    let r = read_agrees w d.preceding [] y 0 (omega arith) tt in
    let a = Agrees-at (0 + w) w q (d.preceding ++ y) (d.preceding ++ y) (0 + w - 1) (w - 1) zero_w refl (omega arith) r in
    let n : length y ≡ d.levels + length d.following = length-append x d.following ∙ omega arith in
    cost_steps d x e ∙ steps_terms d many y d.preceding 0 q (omega arith) a ∙ ap (λ k. sum_by (term d (d.preceding ++ y) w) (range_with_len 1 k)) n

pub steps_are_cost : StepsAreCost
steps_are_cost d x fine e = cost_is d x fine.before e
