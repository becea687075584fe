-- The sum of taps, one more at a time.
use Rattle.std.proofs.Common.{◌≡◌, ℕ, ◌+◌, ◌-◌, ◌<◌, ◌≤◌, ◌^◌, ℤ, pos, ◌+ℤ◌, List, length, drop, get_or, unsigned_abs, sum_by, FitsSigned, to_z, of_z, w32, w64, ap, ◌∙◌, arith}
use Rattle.std.proofs.lemmas.Int.{ints, fits_signed_from_abs}
use Rattle.std.proofs.lemmas.List.{at_drop_all, at_drop_more}
use Rattle.std.proofs.lemmas.List.Sums.{sum_by-drop_more}
use Rattle.clip_core.specs.Mixes.{total}
use Rattle.clip_core.proofs.LineLaws.{kept, kept_wide}

-- the sum of the first taps: with that of those that are left it is that of all, and neither is large
pub record IsTotalSoFar (taps : List ℤ) (i : ℕ) (sum : ℤ) : Type 0 where
  pub so_far : sum +ℤ total (drop i taps) ≡ total taps
  pub small : unsigned_abs sum + sum_by unsigned_abs (drop i taps) ≤ 2 ^ 31 - 1

pub total_started : (taps : List ℤ) → sum_by unsigned_abs taps ≤ 2 ^ 31 - 1 → IsTotalSoFar taps 0 (pos 0)
total_started taps few = record { so_far = omega (arith, ints); small = omega (arith, few) }

pub total_ended : (taps : List ℤ) (i : ℕ) (sum : ℤ) → length taps ≤ i → IsTotalSoFar taps i sum → sum ≡ total taps
total_ended taps i sum end h = omega (arith, ints, at_drop_all total taps i end, h.so_far)

module _ (taps : List ℤ) (i : ℕ) (sum : ℤ) (d : ℤ) (inside : i < length taps) (before : IsTotalSoFar taps i sum) (r : ℤ) (is : r ≡ to_z w32 (of_z w32 (get_or taps i d))) where
  left : sum_by unsigned_abs (drop i taps) ≡ unsigned_abs (get_or taps i d) + sum_by unsigned_abs (drop (i + 1) taps)
  left = sum_by-drop_more unsigned_abs taps i d inside

  held : to_z w64 (of_z w64 r) ≡ get_or taps i d
  held =
      let tap = get_or taps i d in
      ap (λ z. to_z w64 (of_z w64 z)) (is ∙ kept tap (omega (arith, left, before.small))) ∙ kept_wide tap (omega (arith, left, before.small))

  within : unsigned_abs (sum +ℤ get_or taps i d) + sum_by unsigned_abs (drop (i + 1) taps) ≤ 2 ^ 31 - 1
  within = omega (arith, ints, left, before.small)

  pub sum_fits : FitsSigned w64 (sum +ℤ to_z w64 (of_z w64 r))
  sum_fits = rw held (fits_signed_from_abs w64 (sum +ℤ get_or taps i d) (omega (arith, within)))

  pub total_more : IsTotalSoFar taps (i + 1) (to_z w64 (of_z w64 (sum +ℤ to_z w64 (of_z w64 r))))
  total_more =
      let same : to_z w64 (of_z w64 (sum +ℤ to_z w64 (of_z w64 r))) ≡ sum +ℤ get_or taps i d = ap (λ z. to_z w64 (of_z w64 (sum +ℤ z))) held ∙ kept_wide (sum +ℤ get_or taps i d) (omega (arith, within)) in
      rw same (record { so_far = omega (arith, ints, at_drop_more total taps i d inside, before.so_far); small = within })
