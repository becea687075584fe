-- A list that is packed is read again, and bytes that are unpacked are packed again.
use Rattle.std.proofs.Common.{◌≡◌, ℕ, zero, suc, ◌+◌, ◌-◌, ◌*◌, ◌/◌, ◌%◌, ◌<◌, Bool, true, false, cond, eqb, List, get_or, refl, sym, ap, ◌∙◌, arith, one-mul, zero-mul, add-zero}
use Rattle.std.specs.Int.{bit_at}
use Rattle.dsd_bits.specs.Packing.{packed_byte, bit_worth}

-- eight digits of base 2
module _ (v : ℕ → ℕ) (small : (k : ℕ) → v k < 2) where
  pub digit : (k : ℕ) → k < 8 → bit_at (v 0 * 128 + v 1 * 64 + v 2 * 32 + v 3 * 16 + v 4 * 8 + v 5 * 4 + v 6 * 2 + v 7 * 1) (7 - k) ≡ v k
  digit zero h = omega arith
  digit (suc zero) h = omega arith
  digit (suc (suc zero)) h = omega arith
  digit (suc (suc (suc zero))) h = omega arith
  digit (suc (suc (suc (suc zero)))) h = omega arith
  digit (suc (suc (suc (suc (suc zero))))) h = omega arith
  digit (suc (suc (suc (suc (suc (suc zero)))))) h = omega arith
  digit (suc (suc (suc (suc (suc (suc (suc zero))))))) h = omega arith
  digit (suc (suc (suc (suc (suc (suc (suc (suc k)))))))) h = absurd (omega arith)

value : Bool → ℕ
value true = 1
value false = 0

value_lt : (b : Bool) → value b < 2
unfolding value
value_lt true = omega arith
value_lt false = omega arith

value_is_one : (b : Bool) → eqb (value b) 1 ≡ b
unfolding value
value_is_one true = refl
value_is_one false = refl

worth_value : (b : Bool) (w : ℕ) → cond b w 0 ≡ value b * w
unfolding value
worth_value true w = sym (one-mul w)
worth_value false w = sym (zero-mul w)

module _ (xs : List Bool) (j : ℕ) where
  at : ℕ → ℕ
  at k = value (get_or xs (8 * j + k) false)

  sum_of_worths : packed_byte xs j ≡ at 0 * 128 + at 1 * 64 + at 2 * 32 + at 3 * 16 + at 4 * 8 + at 5 * 4 + at 6 * 2 + at 7 * 1
  unfolding at
  sum_of_worths =
      let worth = λ (k w : ℕ). worth_value (get_or xs (8 * j + k) false) w in
      let first : bit_worth xs (8 * j) 128 ≡ value (get_or xs (8 * j + 0) false) * 128 = ap (λ i. bit_worth xs i 128) (sym (add-zero (8 * j))) ∙ worth 0 128 in
      omega (arith, first, worth 1 64, worth 2 32, worth 3 16, worth 4 8, worth 5 4, worth 6 2, worth 7 1)

  digits : (k : ℕ) → k < 8 → bit_at (packed_byte xs j) (7 - k) ≡ value (get_or xs (8 * j + k) false)
  unfolding at
  digits k h = ap (λ b. bit_at b (7 - k)) sum_of_worths ∙ digit at (λ k. value_lt (get_or xs (8 * j + k) false)) k h

-- bit i of the byte that contains it
pub bit_of_byte : (xs : List Bool) (i : ℕ) → eqb (bit_at (packed_byte xs (i / 8)) (7 - i % 8)) 1 ≡ get_or xs i false
bit_of_byte xs i =
    let e : 8 * (i / 8) + i % 8 ≡ i = omega arith in
    ap (λ (m : ℕ). eqb m 1) (digits xs (i / 8) (i % 8) (omega arith)) ∙ value_is_one (get_or xs (8 * (i / 8) + i % 8) false) ∙ ap (λ k. get_or xs k false) e
