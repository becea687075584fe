-- The targets of a fade lie within the limits.
use Rattle.std.proofs.Common.{◌≡◌, ℕ, ◌+◌, ◌-◌, ◌*◌, ◌≤◌, Bool, true, false, cond, leb, List, length, get_or, refl, inl, inr, arith, ℤ, pos, ◌+ℤ◌, ◌*ℤ◌, unsigned_abs}
use Rattle.std.proofs.lemmas.Bool.{leb-true, cases_lt}
use Rattle.std.proofs.lemmas.List.{get_or_past}
use Rattle.std.proofs.lemmas.List.FromFn.{length-map-range_with_len, get_or-map-range_with_len}
use Rattle.dsd_bits.proofs.SumLaws.{abs_add}
use Rattle.splice_core.specs.Cues.{AreWeights}
use Rattle.cost_core.specs.Weighted.{weighted}
use Rattle.cost_core.specs.Fade.{fade, fade_targets}
use Rattle.cost_core.proofs.SumLaws.{weighed_in, part_in}

pub picked : (test : Bool) (x y : ℤ) (n : ℕ) → (test ≡ true → unsigned_abs x ≤ n) → unsigned_abs y ≤ n → unsigned_abs (cond test x y) ≤ n
picked true x y n h k = h refl
picked false x y n h k = k

module _ (weights : List ℤ) (fine : AreWeights weights) where
  weighted_in : (z : List Bool) (n : ℕ) → unsigned_abs (weighted weights z n) ≤ 4096
  unfolding weighted
  weighted_in z n = omega (arith, fine.small_sum, weighed_in weights (λ k. get_or z (n - k) false))

  -- no target is greater than the weights allow
  module _ (a : List Bool) (stop : ℕ) (b : List Bool) (start levels : ℕ) where
    fade_in : (i : ℕ) → unsigned_abs (fade weights a stop b start levels i) ≤ (levels + 1) * 4096
    fade_in i =
        let x = weighted weights a (stop + i - 1) in
        let y = weighted weights b (start - levels + i - 1) in
        let z = weighted weights b (start + i - levels - 1) in
        picked (leb i levels) ((pos (levels + 1 - i) *ℤ x) +ℤ (pos i *ℤ y)) (pos (levels + 1) *ℤ z) ((levels + 1) * 4096)
        (λ h. let le = leb-true i levels h in omega (arith, abs_add (pos (levels + 1 - i) *ℤ x) (pos i *ℤ y), part_in (levels + 1 - i) x (weighted_in a (stop + i - 1)), part_in i y (weighted_in b (start - levels + i - 1))))
        (part_in (levels + 1) z (weighted_in b (start + i - levels - 1)))

    pub fade_targets_in : (k : ℕ) → unsigned_abs (get_or (fade_targets weights a stop b start levels) k (pos 0)) ≤ (levels + 1) * 4096
    fade_targets_in k =
        let n = levels + (length weights - 1) in
        let f = fade weights a stop b start levels in
        elim (cases_lt k n) [
          | inl lt ↦ rw (get_or-map-range_with_len f 1 n k (1 + k) (pos 0) lt refl) (fade_in (1 + k))
          | inr ge ↦ rw (get_or_past (fade_targets weights a stop b start levels) k (pos 0) (omega (arith, length-map-range_with_len f 1 n))) (omega arith)
        ]
