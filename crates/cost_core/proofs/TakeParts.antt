-- A bridge is the same by parts of its takes, if they hold what its target and its weights read.
use Rattle.std.proofs.Common.{◌≡◌, ℕ, zero, suc, ◌+◌, ◌-◌, ◌<◌, ◌≤◌, Bool, true, false, cond, leb, List, map, length, take, drop, get_or, slice_range, refl, ap, ◌∙◌, arith, ℤ, pos, ◌+ℤ◌, ◌*ℤ◌}
use Rattle.std.specs.List.{range_with_len}
use Rattle.std.proofs.lemmas.Bool.{leb-true, leb-false}
use Rattle.std.proofs.lemmas.List.{drop-drop, drop-take, get_or-drop, get_or-take, take-take}
use Rattle.splice_core.specs.Splices.{SpliceContent}
use Rattle.splice_core.specs.declared.cue.Target.{Target}
use Rattle.splice_core.specs.declared.cue.Target.TheVariants.{Fade, Line}
use Rattle.cost_core.specs.Fade.{fade}
use Rattle.cost_core.specs.Targets.{reach_of, targets_of}
use Rattle.cost_core.specs.Weighted.{weighted}
use Rattle.cost_core.specs.Windows.{bridging_at, splice_cue}
use Rattle.cost_core.proofs.SumLaws.{weighed_same}

-- ---- parts of lists
-- a part of a part
pub part_of_part : {X : Type 0} (xs : List X) (from to p q : ℕ) → from ≤ p → p ≤ q → q ≤ to → slice_range (slice_range xs from to) (p - from) (q - from) ≡ slice_range xs p q
part_of_part xs from to p q low mid high =
    let at = p - from in
    let whole : to - from ≡ at + (to - p) = omega arith in
    let place : from + at ≡ p = omega arith in
    let many : q - from - (p - from) ≡ q - p = omega arith in
    ap (λ m. take m (drop at (take (to - from) (drop from xs)))) many
    ∙ ap (λ l. take (q - p) l) (ap (λ m. drop at (take m (drop from xs))) whole ∙ drop-take at (to - p) (drop from xs) ∙ ap (take (to - p)) (drop-drop at from xs) ∙ ap (λ m. take (to - p) (drop m xs)) place)
    ∙ take-take (q - p) (to - p) (drop p xs) (omega arith)

-- its element at a place
bit_of_part : (z : List Bool) (from to n : ℕ) → from ≤ n → n < to → get_or (slice_range z from to) (n - from) false ≡ get_or z n false
bit_of_part z from to n low high =
    let place : from + (n - from) ≡ n = omega arith in
    get_or-take (to - from) (drop from z) (n - from) false (omega arith) ∙ get_or-drop from z (n - from) false ∙ ap (λ k. get_or z k false) place

-- the weighted sum of bits that are all in the part
weighted_of_part : (weights : List ℤ) (z : List Bool) (from to n : ℕ) → ((k : ℕ) → k < length weights → from ≤ n - k) → n < to → weighted weights (slice_range z from to) (n - from) ≡ weighted weights z n
unfolding weighted
weighted_of_part weights z from to n low high =
    weighed_same weights (λ k. get_or (slice_range z from to) (n - from - k) false) (λ k. get_or z (n - k) false) (λ k lt.
    let same : n - from - k ≡ n - k - from = omega arith in
    ap (λ m. get_or (slice_range z from to) m false) same ∙ bit_of_part z from to (n - k) (low k lt) (omega arith))

weighted_at : (weights : List ℤ) (z : List Bool) (from to n m : ℕ) → m ≡ n - from → ((k : ℕ) → k < length weights → from ≤ n - k) → n < to → weighted weights (slice_range z from to) m ≡ weighted weights z n
weighted_at weights z from to n m place low high = ap (weighted weights (slice_range z from to)) place ∙ weighted_of_part weights z from to n low high

-- ---- targets
both : {X : Type 0} (test : Bool) (x1 x2 y1 y2 : X) → (test ≡ true → x1 ≡ x2) → (test ≡ false → y1 ≡ y2) → cond test x1 y1 ≡ cond test x2 y2
both true x1 x2 y1 y2 h k = h refl
both false x1 x2 y1 y2 h k = k refl

map_range_from : {X : Type 0} (f g : ℕ → X) (a n : ℕ) → ((i : ℕ) → a ≤ i → i < a + n → f i ≡ g i) → map f (range_with_len a n) ≡ map g (range_with_len a n)
map_range_from f g a zero h = refl
map_range_from f g a (suc n) h = rw (h a (omega arith) (omega arith), map_range_from f g (a + 1) n (λ i low high. h i (omega arith) (omega arith))) refl

module _ (weights : List ℤ) (a : List Bool) (a_from a_to stop : ℕ) (b : List Bool) (b_from b_to start levels : ℕ) (some : 1 ≤ length weights) (ends : a_from + length weights ≤ stop + 1) (after : stop + levels ≤ a_to)
    (before : b_from ≡ start - (levels + (length weights - 1))) (goes_on : start + length weights ≤ b_to + 1) (room : 1 ≤ levels → levels + (length weights - 1) ≤ start) where
  fade_excerpted : (i : ℕ) → 1 ≤ i → i < 1 + (levels + (length weights - 1)) → fade weights (slice_range a a_from a_to) (stop - a_from) (slice_range b b_from b_to) (start - b_from) levels i ≡ fade weights a stop b start levels i
  fade_excerpted i first last =
      let left = λ (x y : ℤ). (pos (levels + 1 - i) *ℤ x) +ℤ (pos i *ℤ y) in
      both (leb i levels) _ _ _ _
      (λ h.
      let le = leb-true i levels h in
      let has = room (omega arith) in
      let x = weighted_at weights a a_from a_to (stop + i - 1) (stop - a_from + i - 1) (omega arith) (λ k lt. omega arith) (omega arith) in
      let y = weighted_at weights b b_from b_to (start - levels + i - 1) (start - b_from - levels + i - 1) (omega arith) (λ k lt. omega arith) (omega arith) in
      (λ j. left (x j) (y j)))
      (λ h.
      let gt = leb-false i levels h in
      ap (λ (z : ℤ). pos (levels + 1) *ℤ z) (weighted_at weights b b_from b_to (start + i - levels - 1) (start - b_from + i - levels - 1) (omega arith) (λ k lt. omega arith) (omega arith)))

-- ---- the bridge after cue i
-- cue i ends at place `stop` of its take a, and the next cue begins at place `start` of its take b
module _ (splice : SpliceContent) (i : ℕ) (a : List Bool) (a_from a_to stop : ℕ) (b : List Bool) (b_from b_to start : ℕ) (some : 1 ≤ length splice.weights) (ends : a_from + length splice.weights ≤ stop + 1)
    (goes_on : start + length splice.weights ≤ b_to + 1) where
  targets_excerpted : (target : Target) (levels : ℕ) → stop + (reach_of target (length splice.weights) levels).after ≤ a_to → b_from ≡ start - (reach_of target (length splice.weights) levels).before → (1 ≤ levels → (reach_of target (length splice.weights) levels).before ≤ start)
      → targets_of target splice.weights (slice_range a a_from a_to) (stop - a_from) (slice_range b b_from b_to) (start - b_from) levels ≡ targets_of target splice.weights a stop b start levels
  targets_excerpted Fade levels after before room =
      map_range_from (fade splice.weights (slice_range a a_from a_to) (stop - a_from) (slice_range b b_from b_to) (start - b_from) levels) (fade splice.weights a stop b start levels) 1 (levels + (length splice.weights - 1))
      (fade_excerpted splice.weights a a_from a_to stop b b_from b_to start levels some ends after before goes_on room)
  targets_excerpted (Line from to) levels after before room = refl

  -- it is the same by a part of a from `a_from` to `a_to`, and a part of b from `b_from` to `b_to`
  pub bridging_excerpted : stop + (reach_of (splice_cue splice i).target (length splice.weights) (splice_cue splice i).bridge).after ≤ a_to → b_from ≡ start - (reach_of (splice_cue splice i).target (length splice.weights) (splice_cue splice i).bridge).before
      → (1 ≤ (splice_cue splice i).bridge → (reach_of (splice_cue splice i).target (length splice.weights) (splice_cue splice i).bridge).before ≤ start) → bridging_at splice i (slice_range a a_from a_to) (stop - a_from) (slice_range b b_from b_to) (start - b_from) ≡ bridging_at splice i a stop b start
  bridging_excerpted after before room =
      let width = length splice.weights - 1 in
      let last : stop - a_from - width ≡ stop - width - a_from = omega arith in
      let next : start - b_from + width ≡ start + width - b_from = omega arith in
      let preceding = ap (λ m. slice_range (slice_range a a_from a_to) m (stop - a_from)) last ∙ part_of_part a a_from a_to (stop - width) stop (omega arith) (omega arith) (omega arith) in
      let following = ap (λ m. slice_range (slice_range b b_from b_to) (start - b_from) m) next ∙ part_of_part b b_from b_to start (start + width) (omega arith) (omega arith) (omega arith) in
      let targets = targets_excerpted (splice_cue splice i).target (splice_cue splice i).bridge after before room in
      λ j. record { weights = splice.weights; levels = (splice_cue splice i).bridge; preceding = preceding j; following = following j; targets = targets j }
