-- Natural numbers in limbs.
use Rattle.std.proofs.Common.{[], ◌∷◌, ◌++◌, ◌≡◌, ◌+◌, ◌*◌, ◌/◌, ◌%◌, ◌<◌, ◌≤◌, ◌^◌, ℕ, zero, suc, List, length, take, get_or, refl, ap, sym, ◌∙◌, arith, add-one, Bool, inl, inr, Result, Ok, Err, IfOk}
use Rattle.std.specs.Prelude.{◌↔◌, IsTrue}
use Rattle.std.proofs.Common.{Fits}
use Rattle.std.specs.Int.{w64}
use Rattle.std.proofs.lemmas.Bool.{cases_lt}
use Rattle.std.proofs.Math.ListN.{set}
use Rattle.std.proofs.Math.Nat.{mul-le-mul_right}
use Rattle.std.proofs.Math.Seq.{take-suc-set}
use Rattle.std.proofs.lemmas.Nat.{mul-le}
use Rattle.std.proofs.lemmas.List.{length-take-le}
use native.Mathlib.Nat.{pow-suc, pow-zero}
use Rattle.heard_core.specs.Naturals.{base, natural}

pub base_is : base ≡ 18446744073709551616
unfolding base
base_is = refl

pub next_weight : (i : ℕ) → base ^ (i + 1) ≡ base ^ i * base
next_weight i = rw add-one (pow-suc base i)

-- one limb more
pub natural_more : (xs : List ℕ) (i : ℕ) → natural (take (i + 1) xs) ≡ natural (take i xs) + get_or xs i 0 * base ^ i
natural_more [] zero = omega arith
natural_more [] (suc i) = rw add-one (omega arith)
natural_more (x ∷ xs) zero = let e = pow-zero base in omega (arith, ap (λ w. x * w) e)
natural_more (x ∷ xs) (suc i) =
    let e = rw add-one at (natural_more xs i) in
    rw add-one (omega (arith, ap (λ n. base * n) e, ap (λ w. get_or xs i 0 * w) (pow-suc base i)))

pub natural_push : (xs : List ℕ) (x : ℕ) → natural (xs ++ x ∷ []) ≡ natural xs + x * base ^ length xs
natural_push [] x = let e = pow-zero base in omega (arith, ap (λ w. x * w) e)
natural_push (y ∷ xs) x = omega (arith, ap (λ n. base * n) (natural_push xs x), ap (λ w. x * w) (pow-suc base (length xs)))

-- what the first limbs hold is below the weight of the next one
pub natural_below : (xs : List ℕ) (i : ℕ) → ((k : ℕ) → get_or xs k 0 < base) → natural (take i xs) < base ^ i
natural_below xs zero each = omega (arith, pow-zero base)
natural_below xs (suc i) each =
    let e = rw add-one at (natural_more xs i) in
    omega (arith, e, pow-suc base i, natural_below xs i each, mul-le-mul_right (base ^ i) (each i))

-- ---- a product
pub product_limb : (f w lo hi c x n o : ℕ) → n + c * w ≡ o * f → x * f + c ≡ lo + base * hi → (n + lo * w) + hi * (w * base) ≡ (o + x * w) * f
product_limb f w lo hi c x n o so_far limb = omega (arith, ap (λ z. z * w) limb)

-- a product of two limbs and a third has two limbs
pub limbs_fit : (a b c : ℕ) → a < 18446744073709551616 → b < 18446744073709551616 → c < 18446744073709551616 → a * b + c < 340282366920938463463374607431768211456
limbs_fit a b c l m n = omega (arith, mul-le a b 18446744073709551615 18446744073709551615 (omega arith) (omega arith))

pub two_limbs : (p : ℕ) → p % 18446744073709551616 + base * (p / 18446744073709551616) ≡ p
two_limbs p = omega (arith, ap (λ b. b * (p / 18446744073709551616)) base_is)

-- one limb of a product more
pub next_product : (xs ys : List ℕ) (i f c x lo hi : ℕ) → i < length xs → natural (take i xs) + c * base ^ i ≡ natural (take i ys) * f → x ≡ get_or ys i 0 → lo + base * hi ≡ x * f + c
    → natural (take (i + 1) (set xs i lo)) + hi * base ^ (i + 1) ≡ natural (take (i + 1) ys) * f
next_product xs ys i f c x lo hi within so_far read split =
    let put : take (i + 1) (set xs i lo) ≡ take i xs ++ lo ∷ [] = rw add-one (take-suc-set xs i lo within) in
    let many : length (take i xs) ≡ i = length-take-le i xs (omega arith) in
    let made = product_limb f (base ^ i) lo hi c x (natural (take i xs)) (natural (take i ys)) so_far (sym split) in
    let front : natural (take (i + 1) (set xs i lo)) ≡ natural (take i xs) + lo * base ^ i = ap natural put ∙ natural_push (take i xs) lo ∙ ap (λ n. natural (take i xs) + lo * base ^ n) many in
    let whole : natural (take (i + 1) ys) ≡ natural (take i ys) + x * base ^ i = natural_more ys i ∙ ap (λ z. natural (take i ys) + z * base ^ i) (sym read) in
    (λ j. front j + hi * next_weight i j) ∙ made ∙ ap (λ n. n * f) (sym whole)

-- ---- comparisons
carried : (a b n m w : ℕ) → a < b → n < w → n + a * w ≤ m + b * w
carried a b n m w less below = omega (arith, mul-le-mul_right w less)

pub next_at_most : (n m w a b : ℕ) (t r : Bool) → n < w → m < w → (IsTrue t ↔ (n ≤ m)) → (IsTrue t → (IsTrue r ↔ (a ≤ b))) → ((IsTrue t → ⊥) → (IsTrue r ↔ (a < b))) → (IsTrue r ↔ (n + a * w ≤ m + b * w))
next_at_most n m w a b t r below below' so_far up past = elim (cases_lt m n) [
  | inl more ↦
      let no : IsTrue t → ⊥ = λ x. absurd (omega (arith, so_far.0 x)) in (
        λ x. carried a b n m w ((past no).0 x) below,
        λ l. elim (cases_lt a b) [
          | inl less ↦ (past no).1 less
          | inr above ↦ absurd (omega (arith, mul-le-mul_right w above))
        ],
      )
  | inr least ↦
      let yes = so_far.1 least in (
        λ x. omega (arith, least, mul-le-mul_right w ((up yes).0 x)),
        λ l. elim (cases_lt b a) [
          | inl above ↦ absurd (omega (arith, mul-le-mul_right w above))
          | inr less ↦ (up yes).1 less
        ],
      )
]

-- one limb more of two numbers
pub compared : (xs ys : List ℕ) (i : ℕ) (t r : Bool) → ((k : ℕ) → get_or xs k 0 < base) → ((k : ℕ) → get_or ys k 0 < base) → (IsTrue t ↔ (natural (take i xs) ≤ natural (take i ys)))
    → (IsTrue t → (IsTrue r ↔ (get_or xs i 0 ≤ get_or ys i 0))) → ((IsTrue t → ⊥) → (IsTrue r ↔ (get_or xs i 0 < get_or ys i 0)))
    → (IsTrue r ↔ (natural (take (i + 1) xs) ≤ natural (take (i + 1) ys)))
compared xs ys i t r each each' so_far up past =
    let made = next_at_most (natural (take i xs)) (natural (take i ys)) (base ^ i) (get_or xs i 0) (get_or ys i 0) t r (natural_below xs i each) (natural_below ys i each') so_far up past in
    ((λ x. omega (arith, natural_more xs i, natural_more ys i, made.0 x)), (λ l. made.1 (omega (arith, natural_more xs i, natural_more ys i, l))))

pub limb_fits : (xs : List ℕ) → ((k : ℕ) → Fits w64 (get_or xs k 0)) → (k : ℕ) → get_or xs k 0 < base
limb_fits xs fits k = let f = fits k in omega (arith, f.fits, base_is)

pub next_power : (n f i m p : ℕ) → m ≡ n * f ^ i → p ≡ m * f → p ≡ n * f ^ (i + 1)
next_power n f i m p so_far is = rw add-one (omega (arith, is, ap (λ z. z * f) so_far, ap (λ z. n * z) (pow-suc f i)))

pub no_power : (n f : ℕ) → n ≡ n * f ^ 0
no_power n f = omega (arith, ap (λ z. n * z) (pow-zero f))

-- what follows from what is known of a number, if memory sufficed
pub if_multiplied : {A : Type 0} {E : Type 0} {P : Type 0} {Q : Type 0} (r : Result A E) → (P → Q) → IfOk r (λ _. P) → IfOk r (λ _. Q)
if_multiplied (Ok x) more known = more known
if_multiplied (Err e) more known = tt
