-- The targets of a line lie within the limits.
use Rattle.std.proofs.Common.{ℕ, ◌+◌, ◌-◌, ◌*◌, ◌≤◌, leb, get_or, refl, inl, inr, arith, ℤ, pos, ◌+ℤ◌, ◌*ℤ◌, unsigned_abs}
use Rattle.std.proofs.lemmas.Bool.{leb-true, cases_lt}
use Rattle.std.proofs.lemmas.List.{get_or_past}
use Rattle.std.proofs.lemmas.List.FromFn.{length-map-range_with_len, get_or-map-range_with_len}
use Rattle.dsd_bits.proofs.SumLaws.{abs_add}
use Rattle.splice_core.specs.Cues.{IsLine}
use Rattle.cost_core.specs.Line.{line, line_targets}
use Rattle.cost_core.proofs.Fades.{picked}
use Rattle.cost_core.proofs.SumLaws.{part_in}

module _ (a b : ℤ) (fits : IsLine a b) where
  line_in : (levels i : ℕ) → unsigned_abs (line a b levels i) ≤ (levels + 1) * 4096
  line_in levels i =
      picked (leb i levels) ((pos (levels + 1 - i) *ℤ a) +ℤ (pos i *ℤ b)) (pos (levels + 1) *ℤ b) ((levels + 1) * 4096)
      (λ h. let le = leb-true i levels h in omega (arith, abs_add (pos (levels + 1 - i) *ℤ a) (pos i *ℤ b), part_in (levels + 1 - i) a fits.a_fits, part_in i b fits.b_fits))
      (part_in (levels + 1) b fits.b_fits)

  pub line_targets_in : (weights levels k : ℕ) → unsigned_abs (get_or (line_targets a b weights levels) k (pos 0)) ≤ (levels + 1) * 4096
  line_targets_in weights levels k =
      let n = levels + (weights - 1) in
      elim (cases_lt k n) [
        | inl lt ↦ rw (get_or-map-range_with_len (line a b levels) 1 n k (1 + k) (pos 0) lt refl) (line_in levels (1 + k))
        | inr ge ↦ rw (get_or_past (line_targets a b weights levels) k (pos 0) (omega (arith, length-map-range_with_len (line a b levels) 1 n))) (omega arith)
      ]
