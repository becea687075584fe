-- Bounds of products and powers.
use Rattle.std.proofs.Common.{◌≡◌, ◌≢◌, ◌+◌, ◌-◌, ◌*◌, ◌/◌, ◌%◌, ◌<◌, ◌≤◌, ◌^◌, ℕ, zero, suc, ap, sym, ◌∙◌, arith, min, Bool, true, false, ◌&&◌, refl, Option, None, Some, IfSome}
use Rattle.std.proofs.lemmas.Bool.{false≢true}
use Rattle.std.proofs.Math.Nat.{div-mul-le_self, lt-div-mul-add, mul-le-mul_right, pow-le-pow_right}
use Rattle.std.proofs.lemmas.Nat.{mul-le, pow-add, pow_pos}
use Rattle.std.specs.Prelude.{◌↔◌, IsTrue}
use Rattle.heard_core.specs.Bounds.{IsWithin, LiesWithin}
use Rattle.heard_core.specs.declared.bounds.Bounds.{Bounds}
use native.Mathlib.Nat.{pow-suc, pow-zero}

two_powers : (a s t : ℕ) → t ≡ a + s → 2 ^ t ≡ 2 ^ a * 2 ^ s
two_powers a s t is = ap (λ n. 2 ^ n) is ∙ pow-add 2 a s

-- a lower bound, of which the last bits are dropped
pub above_low : (x s a r t n : ℕ) → r ≤ x / 2 ^ s → t ≡ a + s → x * 2 ^ a ≤ n → r * 2 ^ t ≤ n
above_low x s a r t n cut shifts l =
    let whole : r * 2 ^ s ≤ x = omega (arith, mul-le-mul_right (2 ^ s) cut, div-mul-le_self x (2 ^ s)) in
    omega (arith, mul-le-mul_right (2 ^ a) whole, l, ap (λ z. r * z) (two_powers a s t shifts))

rounded_up : (p s r : ℕ) → r ≡ p / 2 ^ s + min s 1 → p ≤ r * 2 ^ s
rounded_up p zero r is = let one = pow-zero 2 in omega (arith, is, ap (λ z. p / z) one, ap (λ z. r * z) one)
rounded_up p (suc s) r is =
    let more : r ≡ p / 2 ^ suc s + 1 = omega (arith, is) in
    omega (arith, lt-div-mul-add {a = p} (pow_pos (suc s)), ap (λ z. z * 2 ^ suc s) more)

-- an upper bound, rounded up if bits are dropped
pub below_high : (x s a r t n : ℕ) → r ≡ x / 2 ^ s + min s 1 → t ≡ a + s → n ≤ x * 2 ^ a → n ≤ r * 2 ^ t
below_high x s a r t n cut shifts h = omega (arith, mul-le-mul_right (2 ^ a) (rounded_up x s r cut), h, ap (λ z. r * z) (two_powers a s t shifts))

-- it has room where the number had
pub rounded_fits : (x s r : ℕ) → x < 340282366920938463463374607431768211456 → r ≡ min s 1 → x / 2 ^ s + r < 340282366920938463463374607431768211456
rounded_fits x zero r fits is = let one = pow-zero 2 in omega (arith, is, fits, ap (λ z. x / z) one)
rounded_fits x (suc s) r fits is =
    let q = x / 2 ^ suc s in
    let two : 2 ≤ 2 ^ suc s = omega (arith, pow-suc 2 s, pow_pos s) in
    omega (arith, is, fits, mul-le q 2 q (2 ^ suc s) (omega arith) two, div-mul-le_self x (2 ^ suc s))

-- bounds of a product
factors_apart : (x y a b : ℕ) → x * y * 2 ^ (a + b) ≡ x * 2 ^ a * (y * 2 ^ b)
factors_apart x y a b = omega (arith, ap (λ z. x * y * z) (pow-add 2 a b))

pub product_within : (a b made : Bounds) (low high shift m n : ℕ) → low ≡ a.low * b.low → high ≡ a.high * b.high → shift ≡ a.shift + b.shift → LiesWithin a m → LiesWithin b n
    → ((k : ℕ) → low * 2 ^ shift ≤ k → k ≤ high * 2 ^ shift → IsWithin made k) → IsWithin made (m * n)
product_within a b made low high shift m n l h s in_a in_b each =
    let least : low * 2 ^ shift ≡ a.low * 2 ^ a.shift * (b.low * 2 ^ b.shift) = (λ i. l i * 2 ^ s i) ∙ factors_apart a.low b.low a.shift b.shift in
    let most : high * 2 ^ shift ≡ a.high * 2 ^ a.shift * (b.high * 2 ^ b.shift) = (λ i. h i * 2 ^ s i) ∙ factors_apart a.high b.high a.shift b.shift in
    each (m * n) (omega (arith, least, mul-le (a.low * 2 ^ a.shift) (b.low * 2 ^ b.shift) m n in_a.at_least in_b.at_least)) (omega (arith, most, mul-le m n (a.high * 2 ^ a.shift) (b.high * 2 ^ b.shift) in_a.at_most in_b.at_most))

-- ---- powers
pub even_power : (x e h : ℕ) → h ≡ e / 2 → e % 2 ≡ 0 → x ^ h * x ^ h ≡ x ^ e
even_power x e h is even = let twice : h + h ≡ e = omega arith in sym (pow-add x h h) ∙ ap (λ n. x ^ n) twice

pub odd_power : (x e h : ℕ) → h ≡ e / 2 → e % 2 ≢ 0 → x ^ h * x ^ h * x ≡ x ^ e
odd_power x e h is odd =
    let whole : suc (h + h) ≡ e = omega arith in
    ap (λ z. z * x) (sym (pow-add x h h)) ∙ sym (pow-suc x (h + h)) ∙ ap (λ n. x ^ n) whole

-- ---- comparisons
pub below_by_more : (x a y b k m n : ℕ) → a ≤ b → k ≡ min (b - a) 63 → x / 2 ^ k < y → m ≤ x * 2 ^ a → y * 2 ^ b ≤ n → m < n
below_by_more x a y b k m n order is less l h =
    let up : x < y * 2 ^ k = omega (arith, lt-div-mul-add {a = x} (pow_pos k), mul-le-mul_right (2 ^ k) less) in
    let within : k + a ≤ b = omega arith in
    let some : 0 < 2 = omega arith in
    let power : 2 ^ k * 2 ^ a ≤ 2 ^ b = omega (arith, pow-add 2 k a, pow-le-pow_right some within) in
    omega (arith, l, h, pow_pos a, mul-le-mul_right (2 ^ a) up, mul-le y (2 ^ k * 2 ^ a) y (2 ^ b) (omega arith) power)

pub below_by_less : (x a y b m n : ℕ) → b < a → x < y / 2 ^ (a - b) → m ≤ x * 2 ^ a → y * 2 ^ b ≤ n → m < n
below_by_less x a y b m n order less l h =
    let k = a - b in
    let up : (x + 1) * 2 ^ k ≤ y = omega (arith, div-mul-le_self y (2 ^ k), mul-le-mul_right (2 ^ k) less) in
    let power : 2 ^ k * 2 ^ b ≡ 2 ^ a = sym (pow-add 2 k b) ∙ ap (λ n. 2 ^ n) (omega arith) in
    omega (arith, l, h, mul-le-mul_right (2 ^ b) up, ap (λ z. x * z) power, pow_pos a)

-- both are known
pub first_known : (x y : Bool) → (x && y) ≡ true → IsTrue x
first_known true y known = refl
first_known false y known = absurd (false≢true known)

pub second_known : (x y : Bool) → (x && y) ≡ true → IsTrue y
second_known true true known = refl
second_known true false known = absurd (false≢true known)
second_known false y known = absurd (false≢true known)

-- what bounds tell of the order of two numbers, if they tell
pub order_told : (a b : Bounds) (m n : ℕ) (told : Option Bool) → IsWithin a m → IsWithin b n → IfSome told (λ t. (m n : ℕ) → IsWithin a m → IsWithin b n → (IsTrue t ↔ (m ≤ n)))
    → IfSome told (λ t. IsTrue t ↔ (m ≤ n))
order_told a b m n None in_a in_b each = tt
order_told a b m n (Some t) in_a in_b each = each m n in_a in_b
