-- Laws of small numbers that are kept in 32 and in 64 bits.
use Rattle.std.proofs.Common.{◌≡◌, ◌^◌, ◌≤◌, ℤ, ◌+ℤ◌, ◌-ℤ◌, ◌*ℤ◌, unsigned_abs, FitsSigned, to_z, of_z, w32, w64, ◌∙◌, ap, arith}
use Rattle.std.proofs.lemmas.Int.{ints, unsigned_abs-mul, fits_signed_from_abs}
use Rattle.std.proofs.lemmas.Nat.{mul-le}
use Rattle.dsd_bits.proofs.SumLaws.{abs_add}
use Rattle.clip_core.proofs.LineLaws.{kept, kept_wide}

-- a difference
module _ (a b : ℤ) (first : unsigned_abs a ≤ 2 ^ 52) (second : unsigned_abs b ≤ 2 ^ 60) where
  difference_held : to_z w64 (of_z w64 a) -ℤ to_z w64 (of_z w64 b) ≡ a -ℤ b
  difference_held =
      let one : to_z w64 (of_z w64 a) ≡ a = kept_wide a (omega (arith, first)) in
      let other : to_z w64 (of_z w64 b) ≡ b = kept_wide b (omega (arith, second)) in
      λ j. one j -ℤ other j

  difference_in : unsigned_abs (a -ℤ b) ≤ 2 ^ 61
  difference_in = omega (arith, ints, first, second)

  pub difference_fits : FitsSigned w64 (to_z w64 (of_z w64 a) -ℤ to_z w64 (of_z w64 b))
  difference_fits = rw difference_held (fits_signed_from_abs w64 (a -ℤ b) (omega (arith, difference_in)))

  pub difference_kept : to_z w64 (of_z w64 (to_z w64 (of_z w64 a) -ℤ to_z w64 (of_z w64 b))) ≡ a -ℤ b
  difference_kept = ap (λ z. to_z w64 (of_z w64 z)) difference_held ∙ kept_wide (a -ℤ b) (omega (arith, difference_in))

  pub difference_small : unsigned_abs (to_z w64 (of_z w64 (to_z w64 (of_z w64 a) -ℤ to_z w64 (of_z w64 b)))) ≤ 2 ^ 61
  difference_small = rw difference_kept difference_in

-- a sum
module _ (a b : ℤ) (first : unsigned_abs a ≤ 2 ^ 61) (second : unsigned_abs b ≤ 2 ^ 54) where
  sum_held : to_z w64 (of_z w64 a) +ℤ to_z w64 (of_z w64 b) ≡ a +ℤ b
  sum_held =
      let one : to_z w64 (of_z w64 a) ≡ a = kept_wide a (omega (arith, first)) in
      let other : to_z w64 (of_z w64 b) ≡ b = kept_wide b (omega (arith, second)) in
      λ j. one j +ℤ other j

  sum_in : unsigned_abs (a +ℤ b) ≤ 2 ^ 62
  sum_in = omega (arith, abs_add a b, first, second)

  pub sum_fits : FitsSigned w64 (to_z w64 (of_z w64 a) +ℤ to_z w64 (of_z w64 b))
  sum_fits = rw sum_held (fits_signed_from_abs w64 (a +ℤ b) (omega (arith, sum_in)))

  pub sum_kept : to_z w64 (of_z w64 (to_z w64 (of_z w64 a) +ℤ to_z w64 (of_z w64 b))) ≡ a +ℤ b
  sum_kept = ap (λ z. to_z w64 (of_z w64 z)) sum_held ∙ kept_wide (a +ℤ b) (omega (arith, sum_in))

-- a gain times a sound
module _ (gain sound : ℤ) (quiet : unsigned_abs gain ≤ 2 ^ 26) (low : unsigned_abs sound ≤ 2 ^ 28) where
  pub gain_kept : to_z w32 (of_z w32 gain) ≡ gain
  gain_kept = kept gain (omega (arith, quiet))

  pub sound_kept : to_z w32 (of_z w32 sound) ≡ sound
  sound_kept = kept sound (omega (arith, low))

  pub factors_kept : to_z w32 (of_z w32 gain) *ℤ to_z w32 (of_z w32 sound) ≡ gain *ℤ sound
  factors_kept = λ j. gain_kept j *ℤ sound_kept j

  product_in : unsigned_abs (gain *ℤ sound) ≤ 2 ^ 54
  product_in = rw (unsigned_abs-mul gain sound) (omega (arith, mul-le (unsigned_abs gain) (unsigned_abs sound) (2 ^ 26) (2 ^ 28) quiet low))

  module _ (x y : ℤ) (first : x ≡ to_z w32 (of_z w32 gain)) (second : y ≡ to_z w32 (of_z w32 sound)) where
    pub product_held : to_z w64 (of_z w64 x) *ℤ to_z w64 (of_z w64 y) ≡ gain *ℤ sound
    product_held =
        let one : to_z w64 (of_z w64 x) ≡ gain = ap (λ z. to_z w64 (of_z w64 z)) (first ∙ gain_kept) ∙ kept_wide gain (omega (arith, quiet)) in
        let other : to_z w64 (of_z w64 y) ≡ sound = ap (λ z. to_z w64 (of_z w64 z)) (second ∙ sound_kept) ∙ kept_wide sound (omega (arith, low)) in
        λ j. one j *ℤ other j

    pub product_fits : FitsSigned w64 (to_z w64 (of_z w64 x) *ℤ to_z w64 (of_z w64 y))
    product_fits = rw product_held (fits_signed_from_abs w64 (gain *ℤ sound) (omega (arith, product_in)))

    pub product_small : unsigned_abs (to_z w64 (of_z w64 x) *ℤ to_z w64 (of_z w64 y)) ≤ 2 ^ 54
    product_small = rw product_held product_in

-- small numbers stay small
pub number_within : (z : ℤ) → unsigned_abs z ≤ 2 ^ 61 → unsigned_abs (to_z w64 (of_z w64 z)) ≤ 2 ^ 61
number_within z small = rw (kept_wide z (omega (arith, small))) small

pub gain_within : (z : ℤ) → unsigned_abs z ≤ 2 ^ 26 → unsigned_abs (to_z w32 (of_z w32 z)) ≤ 2 ^ 26
gain_within z small = rw (kept z (omega (arith, small))) small

pub sound_within : (z : ℤ) → unsigned_abs z ≤ 2 ^ 28 → unsigned_abs (to_z w32 (of_z w32 z)) ≤ 2 ^ 28
sound_within z small = rw (kept z (omega (arith, small))) small
