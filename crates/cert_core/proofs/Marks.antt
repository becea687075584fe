-- Eight values held against eight others, and rows eight values at a time.
use Rattle.std.proofs.Common.{◌≡◌, ◌≢◌, ℕ, zero, suc, ◌+◌, ◌*◌, ◌-◌, ◌/◌, ◌%◌, ◌^◌, ◌<◌, ◌≤◌, Bool, true, false, not, replicate, refl, cond, ltb, eqb, List, [], ◌∷◌, map, take, drop, length, get_or, sym, ap, subst, ◌∙◌, inl, inr, IsTrue, arith, rules, tests}
use Rattle.std.specs.Simd.Lanes.{zip2, mask_l, top}
use Rattle.std.proofs.lemmas.Bool.{ltb-false, ltb-true, cases_lt}
use Rattle.std.proofs.Math.Nat.{zero-div}
use Rattle.std.proofs.lemmas.List.{get_or-drop, get_or-replicate}
use Rattle.std.proofs.lemmas.Simd.{bit_mask_l, get_or-chunk, length-zip2}
use Rattle.std.specs.Simd.{first_chunks}
use Rattle.cost_core.specs.Rows.{seconds}
use Rattle.cost_core.proofs.Lanes.{choices_are}
use Rattle.cost_core.proofs.Chunks.{at_seconds, at_chunk}

pub is_zero : (m : ℕ) → IsTrue (eqb m 0) → m ≡ 0
is_zero m h = search (rules, tests)

pub not_zero : (m : ℕ) → IsTrue (not (eqb m 0)) → m ≢ 0
not_zero zero h e = let f : false ≡ true = h in cc
not_zero (suc m) h e = absurd (omega arith)

no_bit : (m k : ℕ) → m ≡ 0 → m / 2 ^ k % 2 ≡ 0
no_bit m k e = rw e (ap (λ n. n % 2) (zero-div (2 ^ k)))

unmarked : (b : Bool) (n : ℕ) → n ≡ cond b 1 0 → n ≡ 0 → b ≡ false
unmarked false n e z = refl
unmarked true n e z = absurd (omega arith)

-- the mask of the lanes where a row is above another
abbrev pub marked : List ℕ → List ℕ → ℕ
marked row by = mask_l (map (top 63) (zip2 (λ a b. cond (ltb a b) (2 ^ 64 - 1) 0) by row)) % 2 ^ 64

-- where no lane is marked, no value is above the other
pub none_over : (row by : List ℕ) → length row ≡ 8 → length by ≡ 8 → marked row by ≡ 0 → (k : ℕ) → k < 8 → get_or row k 0 ≤ get_or by k 0
none_over row by lr lb e k h =
    let ss = seconds row by in
    let z : mask_l ss ≡ 0 = sym (choices_are row by lr lb).0 ∙ e in
    let at : get_or ss k false ≡ ltb (get_or by k 0) (get_or row k 0) = at_seconds row by k (omega arith) (omega arith) in
    let none : get_or ss k false ≡ false = unmarked (get_or ss k false) (mask_l ss / 2 ^ k % 2) (bit_mask_l ss k) (no_bit (mask_l ss) k z) in
    ltb-false (get_or by k 0) (get_or row k 0) (sym at ∙ none)

some_mark : (ms : List Bool) → mask_l ms ≢ 0 → (k : ℕ) × (k < length ms) × (get_or ms k false ≡ true)
some_mark [] ne = absurd (ne refl)
some_mark (true ∷ ms) ne = (0, omega arith, refl)
some_mark (false ∷ ms) ne =
    let w = some_mark ms (λ e. ne (omega (arith, e))) in
    (suc w.0, omega (arith, w.1), w.2)

-- and where one is, some value is
pub one_over : (row by : List ℕ) → length row ≡ 8 → length by ≡ 8 → marked row by ≢ 0 → (k : ℕ) × (k < 8) × (get_or by k 0 < get_or row k 0)
one_over row by lr lb ne =
    let ss = seconds row by in
    let long : length ss ≡ 8 = length-zip2 (λ x y. ltb y x) row by (lr ∙ sym lb) ∙ lr in
    let w = some_mark ss (λ z. ne ((choices_are row by lr lb).0 ∙ z)) in
    let h : w.0 < 8 = omega (arith, w.1, long) in
    let at : get_or ss w.0 false ≡ ltb (get_or by w.0 0) (get_or row w.0 0) = at_seconds row by w.0 (omega (arith, h, lr)) (omega (arith, h, lb)) in
    (w.0, h, ltb-true (get_or by w.0 0) (get_or row w.0 0) (sym at ∙ w.2))

-- the same against one value
pub one_over_value : (row : List ℕ) (v : ℕ) → length row ≡ 8 → marked row (replicate 8 v) ≢ 0 → (k : ℕ) × (k < 8) × (v < get_or row k 0)
one_over_value row v lr ne =
    let w = one_over row (replicate 8 v) lr refl ne in
    (w.0, w.1, omega (arith, w.2, get_or-replicate 8 w.0 v 0 w.1))

-- one of eight values, at its place in its row
pub lane : (i k : ℕ) (ys xs : List ℕ) → ys ≡ take 8 (drop (8 * i) xs) → k < 8 → get_or ys k 0 ≡ get_or xs (8 * i + k) 0
lane i k ys xs e h = ap (λ y. get_or y k 0) e ∙ get_or-chunk (8 * i) 8 xs k 0 h

-- the same of a value after the eights
pub in_rest : (rest xs : List ℕ) (i : ℕ) → rest ≡ drop (length xs / 8 * 8) xs → get_or rest i 0 ≡ get_or xs (8 * (length xs / 8) + i) 0
in_rest rest xs i is =
    let place : length xs / 8 * 8 + i ≡ 8 * (length xs / 8) + i = omega arith in
    ap (λ ys. get_or ys i 0) is ∙ get_or-drop (length xs / 8 * 8) xs i 0 ∙ ap (λ n. get_or xs n 0) place

pub in_eight : (ws : List (List ℕ)) (xs : List ℕ) (i k : ℕ) → ws ≡ first_chunks 8 (length xs / 8) xs → i < length xs / 8 → k < 8 → get_or (get_or ws i []) k 0 ≡ get_or xs (8 * i + k) 0
in_eight ws xs i k e l h = lane i k (get_or ws i []) xs (at_chunk ws xs i e l) h

not_false : (b : Bool) → not b ≡ false → IsTrue b
not_false true h = refl
not_false false h = absurd (let f : true ≡ false = h in cc)

pub zero_where_not : (m : ℕ) → not (eqb m 0) ≡ false → m ≡ 0
zero_where_not m h = is_zero m (not_false (eqb m 0) h)

pub none_over_value : (row : List ℕ) (v : ℕ) → length row ≡ 8 → marked row (replicate 8 v) ≡ 0 → (k : ℕ) → k < 8 → get_or row k 0 ≤ v
none_over_value row v lr e k h = omega (arith, none_over row (replicate 8 v) lr refl e k h, get_or-replicate 8 k v 0 h)

-- eight places more
pub eight_places : (P : ℕ → Type 0) (i : ℕ) → ((k : ℕ) → k < 8 * i → P k) → ((m : ℕ) → m < 8 → P (8 * i + m)) → (k : ℕ) → k < 8 * (i + 1) → P k
eight_places P i before eight k h =
    elim (cases_lt k (8 * i)) [
      | inl lt ↦ before k lt
      | inr ge ↦
          let e : 8 * i + (k - 8 * i) ≡ k = omega arith in
          subst P e (eight (k - 8 * i) (omega arith))
    ]
