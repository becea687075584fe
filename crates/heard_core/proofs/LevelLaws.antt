-- Levels and powers of ten.
use Rattle.std.proofs.Common.{◌≡◌, ◌≢◌, ◌+◌, ◌*◌, ◌<◌, ◌≤◌, ◌^◌, ℕ, zero, suc, ℤ, pos, negsuc, refl, ap, sym, ◌∙◌, arith, add-one}
use Rattle.std.proofs.Math.Nat.{mul-le-mul_right}
use Rattle.std.proofs.lemmas.Nat.{mul-pow, pow-add}
use native.Mathlib.Nat.{pow-suc, pow-zero, pow-le-pow_left, pow-lt-pow_left}
use Rattle.std.proofs.Common.{[], ◌∷◌, ◌/◌, ◌%◌, Bool, false, IfOk, Result, Ok, Err}
use Rattle.std.specs.Prelude.{◌↔◌, IsTrue}
use Rattle.heard_core.specs.Levels.{IsAtMost, limit, strength}
use Rattle.heard_core.specs.Naturals.{natural}

-- the power of a power of ten
tens : (e : ℕ) (t : ℕ) → t ≡ 10 ^ e → (q : ℕ) → t ^ q ≡ 10 ^ (e * q)
tens e t is zero = let none : e * 0 ≡ 0 = omega arith in pow-zero t ∙ sym (ap (λ n. 10 ^ n) none)
tens e t is (suc q) =
    let more : e * q + e ≡ e * suc q = omega arith in
    pow-suc t q ∙ (λ i. tens e t is q i * is i) ∙ sym (pow-add 10 (e * q) e) ∙ ap (λ n. 10 ^ n) more

in_limbs : (x m n e : ℕ) → m ≡ x * 10000000000000000000 ^ (e / 19) → n ≡ m * 10 ^ (e % 19) → n ≡ x * 10 ^ e
in_limbs x m n e first last =
    let q = e / 19 in
    let r = e % 19 in
    let whole : 19 * q + r ≡ e = omega arith in
    let power : 10000000000000000000 ^ q * 10 ^ r ≡ 10 ^ e = ap (λ z. z * 10 ^ r) (tens 19 10000000000000000000 refl q) ∙ sym (pow-add 10 (19 * q) r) ∙ ap (λ k. 10 ^ k) whole in
    omega (arith, last, ap (λ z. z * 10 ^ r) first, ap (λ z. x * z) power)

-- ---- the limits
module _ (p n v f : ℕ) (twenty : n ≡ 20 * p) where
  power : 100000000000000000000 ^ p ≡ 10 ^ n
  power = tens 20 100000000000000000000 refl p ∙ ap (λ k. 10 ^ k) (sym twenty)

  loud : 1 ≤ f → v < 100000000000000000000 → v ^ p ≤ f ^ p * 10 ^ n
  loud some fits =
      let below : v ≤ f * 100000000000000000000 = omega (arith, mul-le-mul_right 100000000000000000000 some) in
      omega (arith, pow-le-pow_left below p, mul-pow f 100000000000000000000 p, ap (λ z. f ^ p * z) power)

  quiet : p ≢ 0 → 1 ≤ v → f < 100000000000000000000 → f ^ p < v ^ p * 10 ^ (n + 1)
  quiet some some_v fits =
      let below : f < v * 100000000000000000000 = omega (arith, mul-le-mul_right 100000000000000000000 some_v) in
      let more : 10 ^ (n + 1) ≡ 10 ^ n * 10 = rw add-one (pow-suc 10 n) in
      omega (arith, pow-lt-pow_left below some, mul-pow v 100000000000000000000 p, ap (λ z. v ^ p * z) power, ap (λ z. v ^ p * z) more)

pub at_most_limit : (v f : ℕ) → 1 ≤ f → v < 18446744073709551616 → IsAtMost v f (pos limit)
unfolding limit strength
at_most_limit v f some fits = loud 2000 40000 v f refl some (omega arith)

not_below : (a b : ℕ) → a < b → b ≤ a → ⊥
not_below a b l m = absurd (omega arith)

pub above_lowest : (v f : ℕ) → 1 ≤ v → f < 18446744073709551616 → IsAtMost v f (negsuc limit) → ⊥
unfolding limit strength
above_lowest v f some fits most = not_below (f ^ 2000) _ (quiet 2000 40000 v f refl (λ e. absurd (omega arith)) some (omega arith)) most

-- a number times a strength and a power of ten
pub scaled : (old x m n k t : ℕ) → m ≡ old * x ^ 2000 → n ≡ m * 10000000000000000000 ^ (t / 19) → k ≡ n * 10 ^ (t % 19) → k ≡ old * (strength x * 10 ^ t)
unfolding strength
scaled old x m n k t first more last = by_power 2000 old x m n k t first more last
  where
    by_power : (p old x m n k t : ℕ) → m ≡ old * x ^ p → n ≡ m * 10000000000000000000 ^ (t / 19) → k ≡ n * 10 ^ (t % 19) → k ≡ old * (x ^ p * 10 ^ t)
    by_power p old x m n k t first more last = omega (arith, in_limbs m n k t more last, ap (λ z. z * 10 ^ t) first)

pub from_one : (one n scale : ℕ) → one ≡ natural (1 ∷ []) → n ≡ one * scale → n ≡ scale
from_one one n scale is made =
    let one_is : natural (1 ∷ []) ≡ 1 = omega arith in
    omega (arith, made, ap (λ z. z * scale) (is ∙ one_is))

-- what a comparison says where it isn't true
pub not_measured : (v f : ℕ) (k : ℤ) (b : Bool) → (IsTrue b ↔ IsAtMost v f k) → b ≡ false → IsAtMost v f k → ⊥
not_measured v f k b is above most = let met = is.1 most in (cc)

-- what is told of a number is told of one that is the same
pub told_same : {E : Type 0} {P : Type 0} {Q : Type 0} (r : Result Bool E) → (P ↔ Q) → IfOk r (λ b. IsTrue b ↔ Q) → IfOk r (λ b. IsTrue b ↔ P)
told_same (Ok b) same told = ((λ x. same.1 (told.0 x)), (λ x. told.1 (same.0 x)))
told_same (Err e) same told = tt
