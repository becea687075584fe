-- The square of a difference, as 64 bits hold it.
use Rattle.std.proofs.Common.{◌≡◌, ℕ, ◌*◌, ◌<◌, ◌≤◌, ◌^◌, ℤ, pos, negsuc, ◌*ℤ◌, ◌-ℤ◌, unsigned_abs, to_z, of_z, w64, SFits, ap, ◌∙◌, arith}
use Rattle.std.proofs.Math.IntN.{pos-*ℤ-pos, negsuc-*ℤ-negsuc}
use Rattle.std.proofs.lemmas.Int.{ints}
use Rattle.std.proofs.lemmas.Nat.{mul-le}
use Rattle.cost_core.specs.Weighted.{square}
use Rattle.cost_core.proofs.SumLaws.{abs_sub}

-- a square is not negative
squared : (z : ℤ) → z *ℤ z ≡ pos (unsigned_abs z * unsigned_abs z)
squared (pos n) = pos-*ℤ-pos n n
squared (negsuc n) = negsuc-*ℤ-negsuc n n

-- and 64 bits with a sign hold it
held : (n : ℕ) → n < 2 ^ 63 → to_z w64 (of_z w64 (pos n)) ≡ pos n
held n lt = omega (arith, ints)

-- the difference d of two scaled sums
module _ (a b d : ℤ) (ha : unsigned_abs a ≤ 16781312) (hb : unsigned_abs b ≤ 16781312) (is : d ≡ a -ℤ b) where
  pub squared_bound : square (a -ℤ b) ≤ 33562624 * 33562624
  unfolding square
  squared_bound = let h : unsigned_abs (a -ℤ b) ≤ 33562624 = omega (arith, abs_sub a b) in mul-le _ _ 33562624 33562624 h h

  read : to_z w64 (of_z w64 d) ≡ a -ℤ b
  read = let small : unsigned_abs (a -ℤ b) ≤ 33562624 = omega (arith, abs_sub a b) in omega (arith, ints, is, small)

  pub squared_fits : SFits w64 (to_z w64 (of_z w64 d) *ℤ to_z w64 (of_z w64 d))
  unfolding square
  squared_fits = rw (read, squared (a -ℤ b)) (record { sfits = omega (arith, squared_bound) })

  pub squared_is : to_z w64 (of_z w64 (to_z w64 (of_z w64 d) *ℤ to_z w64 (of_z w64 d))) ≡ pos (square (a -ℤ b))
  unfolding square
  squared_is =
      ap (λ z. to_z w64 (of_z w64 (z *ℤ z))) read ∙ ap (λ z. to_z w64 (of_z w64 z)) (squared (a -ℤ b))
      ∙ held (square (a -ℤ b)) (omega (arith, squared_bound))
