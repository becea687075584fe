-- Numbers: powers of two, and digits of numbers.
use Rattle.std.proofs.Common.{◌≡◌, ℕ, zero, suc, ◌+◌, ◌*◌, ◌-◌, ◌/◌, ◌%◌, ◌^◌, ◌<◌, ◌≤◌, ◌⊎◌, inl, inr, refl, sym, ap, ◌∙◌, arith}
use Rattle.std.proofs.lemmas.Bool.{cases_lt}
use Rattle.std.proofs.lemmas.Nat.{mod-pow-add}
use Rattle.std.proofs.Math.Nat.{mod-eq_of_lt, mod-eq-sub-mod, two-pow-succ, pow-le-pow_right, div-div-eq-div-mul}
use Rattle.std.proofs.Math.Pow.{mod-mod-pow}

pub pow_double : (w : ℕ) → 0 < w → 2 ^ w ≡ 2 ^ (w - 1) + 2 ^ (w - 1)
pow_double zero h = absurd (omega arith)
pow_double (suc m) h = rw two-pow-succ (let e : suc m - 1 ≡ m = omega arith in rw e)

pub pow_twice : (n : ℕ) → 2 ^ suc n ≡ 2 * 2 ^ n
pow_twice n = rw (two-pow-succ n) (omega arith)

pub states_small : (w : ℕ) → w ≤ 11 → 2 ^ w ≤ 2048
states_small w h = let two : 0 < 2 = omega arith in pow-le-pow_right two {i = w} {j = 11} h

-- a shift of 1 that loses no bit
pub one_shifted : (n : ℕ) → n ≤ 11 → (1 * 2 ^ n) % 18446744073709551616 ≡ 2 ^ n
one_shifted n h = let e : 1 * 2 ^ n ≡ 2 ^ n = omega arith in ap (λ x. x % 18446744073709551616) e ∙ mod-eq_of_lt (omega (arith, states_small n h))

-- the digits of a number but for the highest ones
pub mod_low : (c w : ℕ) → c % 2 ^ suc w ≡ 2 * (c / 2 % 2 ^ w) + c % 2
mod_low c w =
    let e : suc w ≡ w + 1 = omega arith in
    let h : c / 2 ^ 1 ≡ c / 2 = refl in
    ap (λ n. c % 2 ^ n) e ∙ mod-pow-add c w 1 ∙ omega arith

-- a digit further up
pub div_twice : (c k : ℕ) → c / 2 ^ suc k ≡ c / 2 / 2 ^ k
div_twice c k = ap (λ n. c / n) (pow_twice k) ∙ sym (div-div-eq-div-mul c 2 (2 ^ k))

-- a shift from the lower half, and from the upper half
pub shift_low : (h q d : ℕ) → q < h → d < 2 → (2 * q + d) % (h + h) ≡ 2 * q + d
shift_low h q d a b = mod-eq_of_lt (omega arith)

pub shift_high : (h q d : ℕ) → q < h → d < 2 → (2 * (q + h) + d) % (h + h) ≡ 2 * q + d
shift_high h q d a b =
    let e : (2 * (q + h) + d) - (h + h) ≡ 2 * q + d = omega arith in
    let le : h + h ≤ 2 * (q + h) + d = omega arith in
    mod-eq-sub-mod le ∙ (rw e (shift_low h q d a b))

-- the state before a shift, from the state after it
pub unshift : (h q d s : ℕ) → q < h + h → d < 2 → s ≡ (2 * q + d) % (h + h) → (s % 2 ≡ d) × ((q ≡ s / 2) ⊎ (q ≡ s / 2 + h))
unshift h q d s a b e =
    elim (cases_lt q h) [
      | inl lt ↦ let f : s ≡ 2 * q + d = e ∙ shift_low h q d lt b in (omega arith, inl (omega arith))
      | inr ge ↦
          let g : q ≡ (q - h) + h = omega arith in
          let f : s ≡ 2 * (q - h) + d = e ∙ ap (λ n. (2 * n + d) % (h + h)) g ∙ shift_high h (q - h) d (omega arith) b in (omega arith, inr (omega arith))
    ]

-- the lowest bits of a shifted number
pub low_of_shift : (x d m k : ℕ) → d < 2 → k < m → ((2 * x + d) % 2 ^ m) % 2 ^ suc k ≡ 2 * (x % 2 ^ k) + d
low_of_shift x d m k b h =
    let y = 2 * x + d in
    let j = m - suc k in
    let ej : j + suc k ≡ m = omega arith in
    let e1 : y % 2 ^ m % 2 ^ suc k ≡ y % 2 ^ suc k = ap (λ n. y % 2 ^ n % 2 ^ suc k) (sym ej) ∙ mod-mod-pow y j (suc k) in
    let ek : k + 1 ≡ suc k = omega arith in
    let e2 : y % 2 ^ suc k ≡ (y / 2 ^ 1 % 2 ^ k) * 2 ^ 1 + y % 2 ^ 1 = ap (λ n. y % 2 ^ n) (sym ek) ∙ mod-pow-add y k 1 in
    let e3 : y / 2 ^ 1 ≡ x = omega arith in
    let e4 : y % 2 ^ 1 ≡ d = omega arith in
    let e5 : (y / 2 ^ 1) % 2 ^ k ≡ x % 2 ^ k = ap (λ n. n % 2 ^ k) e3 in
    e1 ∙ e2 ∙ omega arith
