-- Laws of sound that is added place by place.
use Rattle.std.proofs.Common.{◌≡◌, ◌≢◌, ℕ, ◌+◌, ◌^◌, ◌<◌, ◌≤◌, ℤ, pos, ◌+ℤ◌, ◌*ℤ◌, unsigned_abs, FitsSigned, List, length, set, get_or, slice_index_or, slice_range, ◌-◌, refl, sym, ◌∙◌, ap, subst, inl, inr, arith, to_z, of_z, w32, w64}
use Rattle.std.proofs.lemmas.Bool.{cases_lt}
use Rattle.std.proofs.lemmas.Int.{to_z-of_z, fits_signed_from_abs}
use Rattle.std.proofs.lemmas.List.{get_or_default, get_or-set_same, get_or-set_other, length-set}
use Rattle.std.proofs.lemmas.List.Edits.{get_or-between, length-between}
use Rattle.std.proofs.Math.Nat.{le_refl}
use Rattle.null_core.specs.Mixing.{AreSmall, IsGained}
use Rattle.null_core.proofs.KeptLaws.{number_within}
use Rattle.null_core.proofs.MidLaws.{length_mid, mid_before, mid_within, mid_after}
use borrow.Rule.Slice.PartMut.{put_mid}

-- to each of the first n numbers was added a sound times the gain, and the others are as they were
pub record IsGainedTo (n : ℕ) (gains : ℕ → ℤ) (k : ℕ) (sound old new : List ℤ) : Type 0 where
  pub long : length new ≡ length old
  pub each : (i : ℕ) → i < n → slice_index_or new i (pos 0) ≡ slice_index_or old i (pos 0) +ℤ (gains (k + i) *ℤ slice_index_or sound i (pos 0))
  pub rest : (i : ℕ) → n ≤ i → i < length old → slice_index_or new i (pos 0) ≡ slice_index_or old i (pos 0)

-- before the first number, and after the last
pub gained_none : (gains : ℕ → ℤ) (k : ℕ) (sound old : List ℤ) → IsGainedTo 0 gains k sound old old
gained_none gains k sound old = record { long = refl; each = λ i below. absurd (omega (arith, below)); rest = λ i from below. refl }

pub gained_all : (gains : ℕ → ℤ) (k : ℕ) (sound old : List ℤ) (n : ℕ) (new : List ℤ) → IsGainedTo n gains k sound old new → length old ≤ n → IsGained gains k sound old new
gained_all gains k sound old n new sofar all = record { long = sofar.long; each = λ i below. sofar.each i (omega (arith, below, all)) }

module _ (gains : ℕ → ℤ) (k : ℕ) (sound old : List ℤ) (n : ℕ) (new : List ℤ) (sofar : IsGainedTo n gains k sound old new) (inside : n < length old) where
  abbrev pub with_it : ℤ → Type 0
  with_it v = v ≡ slice_index_or old n (pos 0) +ℤ (gains (k + n) *ℤ slice_index_or sound n (pos 0))

  there : n < length new
  there = omega (arith, sofar.long, inside)

  -- the next number is as it was, and small
  pub next_within : AreSmall (2 ^ 61) old → unsigned_abs (to_z w64 (of_z w64 (get_or new n (pos 0)))) ≤ 2 ^ 61
  next_within small = subst (λ (z : ℤ). unsigned_abs (to_z w64 (of_z w64 z)) ≤ 2 ^ 61) (sym (sofar.rest n (le_refl n) inside)) (number_within (get_or old n (pos 0)) (small n inside))

  other : (v : ℤ) (i : ℕ) → i ≢ n → get_or (set new n v) i (pos 0) ≡ get_or new i (pos 0)
  other v i apart = get_or-set_other new n i v (pos 0) apart

  pub gained_more : (v : ℤ) → with_it v → IsGainedTo (n + 1) gains k sound old (set new n v)
  gained_more v is = record {
    long = length-set new n v ∙ sofar.long;
    each = λ i below. elim (cases_lt i n) [
      | inl earlier ↦ other v i (λ e. omega (arith, earlier, e)) ∙ sofar.each i earlier
      | inr later ↦ let at : n ≡ i = omega (arith, later, below) in subst (λ j. get_or (set new n v) j (pos 0) ≡ get_or old j (pos 0) +ℤ (gains (k + j) *ℤ get_or sound j (pos 0))) at (get_or-set_same new n v (pos 0) there ∙ is)
    ];
    rest = λ i from below. other v i (λ e. omega (arith, from, e)) ∙ sofar.rest i (omega (arith, from)) below;
  }

  -- the sum that code makes of the numbers as it holds them
  module _ (gain : ℤ) (quiet : unsigned_abs gain ≤ 2 ^ 26) (is : gain ≡ gains (k + n)) (small : AreSmall (2 ^ 61) old) (heard : AreSmall (2 ^ 28) sound) (long : length sound ≡ length old) (d e r : ℤ) (sum : r ≡ to_z w64 (of_z w64 (get_or new n d)) +ℤ (to_z w32 (of_z w32 gain) *ℤ to_z w32 (of_z w32 (get_or sound n e)))) (fits : FitsSigned w64 r) where
    held : get_or new n d ≡ get_or old n (pos 0)
    held = get_or_default new n d (pos 0) there ∙ sofar.rest n (le_refl n) inside

    held_small : unsigned_abs (get_or new n d) < 2 ^ 63
    held_small = subst (λ (z : ℤ). unsigned_abs z < 2 ^ 63) (sym held) (omega (arith, small n inside))

    sound_there : n < length sound
    sound_there = omega (arith, long, inside)

    of_sound : get_or sound n e ≡ get_or sound n (pos 0)
    of_sound = get_or_default sound n e (pos 0) sound_there

    sound_small : unsigned_abs (get_or sound n e) < 2 ^ 31
    sound_small = subst (λ (z : ℤ). unsigned_abs z < 2 ^ 31) (sym of_sound) (omega (arith, heard n sound_there))

    pub sum_with_it : with_it (to_z w64 (of_z w64 r))
    sum_with_it =
        to_z-of_z w64 r fits ∙ sum
        ∙ ap (λ z. z +ℤ (to_z w32 (of_z w32 gain) *ℤ to_z w32 (of_z w32 (get_or sound n e)))) (to_z-of_z w64 _ (fits_signed_from_abs w64 _ held_small) ∙ held)
        ∙ ap (λ z. get_or old n (pos 0) +ℤ (z *ℤ to_z w32 (of_z w32 (get_or sound n e)))) (to_z-of_z w32 gain (fits_signed_from_abs w32 gain (omega (arith, quiet))) ∙ is)
        ∙ ap (λ z. get_or old n (pos 0) +ℤ (gains (k + n) *ℤ z)) (to_z-of_z w32 _ (fits_signed_from_abs w32 _ sound_small) ∙ of_sound)

-- a part of small numbers is small
pub between_small : (most : ℕ) (xs : List ℤ) (done end : ℕ) → end ≤ length xs → AreSmall most xs → AreSmall most (slice_range xs done end)
between_small most xs done end inside small j below =
    let there : done + j < end = omega (arith, below, length-between xs done end inside) in
    subst (λ (z : ℤ). unsigned_abs z ≤ most) (sym (get_or-between xs done end j (pos 0) there)) (small (done + j) (omega (arith, there, inside)))

-- and so is a part of what is as it was
pub rest_small : (gains : ℕ → ℤ) (k : ℕ) (sound old : List ℤ) (done : ℕ) (new : List ℤ) → IsGainedTo done gains k sound old new → (most end : ℕ) → end ≤ length old → AreSmall most old → AreSmall most (slice_range new done end)
rest_small gains k sound old done new sofar most end inside small j below =
    let there : done + j < end = omega (arith, below, length-between new done end (omega (arith, sofar.long, inside))) in
    let same = get_or-between new done end j (pos 0) there ∙ sofar.rest (done + j) (omega arith) (omega (arith, there, inside)) in
    subst (λ (z : ℤ). unsigned_abs z ≤ most) (sym same) (small (done + j) (omega (arith, there, inside)))

-- sound that is added in a part of the numbers goes on with what was added before it
module _ (gains line : ℕ → ℤ) (k : ℕ) (sound old : List ℤ) (done end : ℕ) (new part : List ℤ) (sofar : IsGainedTo done gains k sound old new) (order : done ≤ end) (inside : end ≤ length old) (long : length sound ≡ length old)
    (added : IsGained line (k + done) (slice_range sound done end) (slice_range new done end) part) (same : (j : ℕ) → done ≤ j → j < end → line (k + j) ≡ gains (k + j)) where
  old_there : done ≤ length new
  old_there = omega (arith, sofar.long, order, inside)

  end_there : end ≤ length new
  end_there = omega (arith, sofar.long, inside)

  part_long : length part ≡ end - done
  part_long = added.long ∙ length-between new done end end_there

  mid_long : length (put_mid done (end - done) new part) ≡ length old
  mid_long = length_mid done (end - done) new part (omega (arith, order, end_there)) part_long ∙ sofar.long

  in_old : (j : ℕ) → done + j < end → get_or (slice_range new done end) j (pos 0) ≡ get_or old (done + j) (pos 0)
  in_old j below = get_or-between new done end j (pos 0) below ∙ sofar.rest (done + j) (omega arith) (omega (arith, below, inside))

  in_sound : (j : ℕ) → done + j < end → get_or (slice_range sound done end) j (pos 0) ≡ get_or sound (done + j) (pos 0)
  in_sound j below = get_or-between sound done end j (pos 0) below

  IsIt : ℕ → Type 0
  IsIt i = get_or (put_mid done (end - done) new part) i (pos 0) ≡ get_or old i (pos 0) +ℤ (gains (k + i) *ℤ get_or sound i (pos 0))

  in_part : (j : ℕ) → done + j < end → IsIt (done + j)
  unfolding IsIt
  in_part j below =
      let there : j < length (slice_range new done end) = omega (arith, below, length-between new done end end_there) in
      let place : k + done + j ≡ k + (done + j) = omega arith in
      mid_within done (end - done) new part old_there part_long (pos 0) j (omega (arith, below))
      ∙ added.each j there
      ∙ ap (λ z. z +ℤ (line (k + done + j) *ℤ get_or (slice_range sound done end) j (pos 0))) (in_old j below)
      ∙ ap (λ z. get_or old (done + j) (pos 0) +ℤ (line (k + done + j) *ℤ z)) (in_sound j below)
      ∙ ap (λ z. get_or old (done + j) (pos 0) +ℤ (z *ℤ get_or sound (done + j) (pos 0))) (ap line place ∙ same (done + j) (omega arith) below)

  pub gained_part : IsGainedTo end gains k sound old (put_mid done (end - done) new part)
  unfolding IsIt
  gained_part = record {
    long = mid_long;
    each = λ i below. elim (cases_lt i done) [
      | inl earlier ↦ mid_before done (end - done) new part old_there part_long (pos 0) i earlier ∙ sofar.each i earlier
      | inr later ↦ let at : done + (i - done) ≡ i = omega (arith, later) in subst IsIt at (in_part (i - done) (omega (arith, later, below)))
    ];
    rest = λ i from below. let at : done + (end - done) + (i - end) ≡ i = omega (arith, from, order) in
        subst (λ n. get_or (put_mid done (end - done) new part) n (pos 0) ≡ get_or new n (pos 0)) at (mid_after done (end - done) new part old_there part_long (pos 0) (i - end)) ∙ sofar.rest i (omega (arith, from, order)) below;
  }
