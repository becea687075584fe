-- The window of a bridge is made of the ends of its two cues.
use Rattle.std.proofs.Common.{◌≡◌, ℕ, ◌+◌, ◌-◌, ◌≤◌, Bool, List, length, take, drop, slice_range, sym, ap, ◌∙◌, arith}
use Rattle.std.proofs.lemmas.List.{drop-drop, drop-take, take-take}
use Rattle.dsd_bits.proofs.PackingLemmas.{length-slice_range}
use Rattle.cost_core.specs.Channels.{FadesJoin}
use Rattle.cost_core.specs.Windows.{splice_cue}
use Rattle.cost_core.proofs.Windows.{cue_fits, preceding_many, following_many}

module _ (xs : List Bool) where
  -- the last n bits of a range
  last_of_range : (a e n : ℕ) → a + n ≤ e → e ≤ length xs → slice_range xs (e - n) e ≡ drop (e - a - n) (slice_range xs a e)
  last_of_range a e n h k =
      let p = e - a - n in
      let whole : e - a ≡ p + n = omega arith in
      let from : a + p ≡ e - n = omega arith in
      let many : e - (e - n) ≡ n = omega arith in
      ap (λ m. take m (drop (e - n) xs)) many ∙ sym (ap (λ m. drop p (take m (drop a xs))) whole ∙ drop-take p n (drop a xs) ∙ ap (take n) (drop-drop p a xs) ∙ ap (λ m. take n (drop m xs)) from)

  -- the first n bits of a range
  first_of_range : (s t n : ℕ) → s + n ≤ t → slice_range xs s (s + n) ≡ take n (slice_range xs s t)
  first_of_range s t n h =
      let many : s + n - s ≡ n = omega arith in
      ap (λ m. take m (drop s xs)) many ∙ sym (take-take n (t - s) (drop s xs) (omega arith))

pub fades_join : FadesJoin
fades_join splice i a b fine h inside next_inside =
    let n = length splice.weights - 1 in
    let first = (splice_cue splice i).start in
    let stop = (splice_cue splice i).stop in
    let start = (splice_cue splice (i + 1)).start in
    let last = (splice_cue splice (i + 1)).stop in
    let some = fine.weights_fit.two_weights in
    let here = (cue_fits splice fine i (omega arith)).long_enough in
    let next = (cue_fits splice fine (i + 1) h).long_enough in
    let before = preceding_many splice fine i a stop b start (omega arith) (omega (arith, here, some)) inside (omega (arith, next, next_inside)) in
    let after = following_many splice fine i a stop b start (omega arith) (omega (arith, here, some)) inside (omega (arith, next, next_inside)) in
    let cue = length-slice_range a first stop inside in
    let next_cue = length-slice_range b start last next_inside in
    let place : stop - first - n ≡ length (slice_range a first stop) - length (slice_range a (stop - n) stop) = omega arith in
    record {
      as_many = omega arith;
      before_in = omega arith;
      before_is = last_of_range a first stop n (omega arith) inside ∙ ap (λ m. drop m (slice_range a first stop)) place;
      after_in = omega arith;
      after_is = first_of_range b start last n (omega arith) ∙ ap (λ m. take m (slice_range b start last)) (sym after);
    }
