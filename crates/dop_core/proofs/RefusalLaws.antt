-- Why a file that begins with some bytes is refused.
use Rattle.std.proofs.Common.{◌≡◌, ◌≢◌, ℕ, ◌+◌, ◌*◌, ◌%◌, ◌<◌, ◌≤◌, inl, inr, cond, eqb, List, ◌++◌, drop, length, None, Some, Ok, Err, slice_index, refl, sym, ap, ◌∙◌, eq-eqb, mul_comm, ne_eqb, length-append, arith}
use Rattle.std.proofs.Math.Nat.{add-mul, mul-add-mod_self_right, zero-mod}
use Rattle.std.proofs.lemmas.Bool.{cases_eq, le-ltb, lt-ltb}
use Rattle.std.proofs.lemmas.List.{drop_at, get_or_append_left}
use Rattle.std.proofs.lemmas.Nat.{div-add-mod'}
use Rattle.dop_core.specs.declared.fault.DopFault.TheVariants.{BadMarker, DataCut, NoSize, PartFrame}
use Rattle.dop_core.specs.declared.shape.Announced.{Announced}
use Rattle.dop_core.specs.declared.markers.Marks.{Marks}
use Rattle.dop_core.specs.Fronts.{Announces}
use Rattle.dop_core.specs.Markers.{AreMarks}
use Rattle.dop_core.specs.Reading.{broken_from, head_of, phase, recording_of}
use Rattle.dop_core.specs.Sounds.{sound_long}
use Rattle.dop_core.proofs.MarkerLaws.{broken_in, no_samples, nothing_times}

-- a multiple has no rest
no_rest : (a n : ℕ) → a * n % n ≡ 0
no_rest a n = let none : a * n + 0 ≡ a * n = omega arith in ap (λ k. k % n) (sym none) ∙ mul-add-mod_self_right a n 0 ∙ zero-mod n

module _ (front : List ℕ) (a : Announced) (said : Announces front a) where
  abbrev n : ℕ
  n = a.head.channels

  threes : a.head.frames * (3 * n) ≡ sound_long a.head
  threes =
      let three : 3 * n ≡ n + (n + n) = omega arith in
      ap (λ k. a.head.frames * k) three ∙ mul_comm a.head.frames (n + (n + n)) ∙ omega (arith, add-mul n (n + n) a.head.frames, add-mul n n a.head.frames, mul_comm n a.head.frames)

  -- how the frames and what is left make up the data
  pub within : sound_long a.head ≤ a.size
  within = omega (arith, div-add-mod' a.size (3 * n), ap (λ k. k * (3 * n)) said.frames, threes)

  pub whole_or_part : sound_long a.head < a.size → a.size % (3 * n) ≢ 0
  whole_or_part less = λ none. absurd (omega (arith, div-add-mod' a.size (3 * n), ap (λ k. k * (3 * n)) said.frames, threes, none, less))

  pub cut_refused : (sound : List ℕ) → length sound < a.size → recording_of (front ++ sound) ≡ Err (DataCut a.size (length sound))
  unfolding recording_of
  cut_refused sound less = rw (said.heads sound, ne_eqb a.size 0 (omega (arith, less)), lt-ltb (length sound) a.size less) refl

  pub part_refused : (sound : List ℕ) → a.size ≤ length sound → sound_long a.head < a.size → recording_of (front ++ sound) ≡ Err PartFrame
  unfolding recording_of
  part_refused sound all less = rw (said.heads sound, ne_eqb a.size 0 (omega (arith, less)), le-ltb (length sound) a.size all, ne_eqb (a.size % (3 * n)) 0 (whole_or_part less)) refl

  module _ (whole : a.size ≡ sound_long a.head) where
    no_part : a.size % (3 * n) ≡ 0
    no_part = ap (λ k. k % (3 * n)) (whole ∙ sym threes) ∙ no_rest a.head.frames (3 * n)

    pub size_refused : (back : List ℕ) → a.size ≡ 0 → 0 < length back → recording_of (front ++ back) ≡ Err (NoSize 0)
    unfolding recording_of
    size_refused back none some = rw (said.heads back, eq-eqb a.size 0 none, lt-ltb 0 (length back) some) refl

    pub head_ok : (rest : List ℕ) → a.size ≤ length rest → (a.size ≡ 0 → length rest ≡ 0) → head_of (front ++ rest) ≡ Ok a.head
    head_ok rest all none = elim (cases_eq a.size 0) [
      | inl is ↦ said.heads rest ∙ rw (eq-eqb a.size 0 is, le-ltb 0 (length rest) (omega (arith, none is)), le-ltb (length rest) a.size all, eq-eqb (a.size % (3 * n)) 0 no_part) refl
      | inr some ↦ said.heads rest ∙ rw (ne_eqb a.size 0 some, le-ltb (length rest) a.size all, eq-eqb (a.size % (3 * n)) 0 no_part) refl
    ]

    pub marker_refused : (sound rest : List ℕ) (frame : ℕ) → length sound ≡ a.size → broken_from n (phase sound) sound 0 (a.head.frames * n) ≡ Some frame → recording_of (front ++ (sound ++ rest)) ≡ Err (BadMarker frame)
    unfolding recording_of
    marker_refused sound rest frame long is =
        let some : a.size ≢ 0 = λ none. (let both : None ≡ Some frame = sym (no_samples n (phase sound) sound (a.head.frames * n) (omega (arith, none, whole))) ∙ is in absurd cc) in
        let here : drop a.head.start (front ++ (sound ++ rest)) ≡ sound ++ rest = drop_at front (sound ++ rest) a.head.start (sym said.start) in
        let ok : head_of (front ++ (sound ++ rest)) ≡ Ok a.head = head_ok (sound ++ rest) (omega (arith, long, length-append sound rest)) (λ none. absurd (some none)) in
        let first : slice_index (sound ++ rest) 2 ≡ slice_index sound 2 = get_or_append_left sound rest 0 2 (omega (arith, long, whole, some)) in
        let same : broken_from n (phase (sound ++ rest)) (sound ++ rest) 0 (a.head.frames * n) ≡ Some frame = ap (λ (k : ℕ). broken_from n (cond (eqb k 250) 1 0) (sound ++ rest) 0 (a.head.frames * n)) first ∙ broken_in n (phase sound) sound rest 0 (a.head.frames * n) (omega (arith, long, whole)) ∙ is in
        rw (ok, here, same) refl

-- which frame is the first that hasn't its marker
pub marks_break : (n : ℕ) (m : Marks) (frames : ℕ) (sound : List ℕ) (frame : ℕ) → AreMarks n m frames sound → m.broken ≡ Some frame → broken_from n (phase sound) sound 0 (frames * n) ≡ Some frame
marks_break n m frames sound frame marks is = elim (cases_eq frames 0) [
  | inl none ↦ (let both : None ≡ Some frame = sym (no_samples n m.first sound (frames * n) (nothing_times frames n none)) ∙ sym marks.broken ∙ is in absurd cc)
  | inr some ↦ ap (λ k. broken_from n k sound 0 (frames * n)) (sym (marks.first (omega (arith, some)))) ∙ sym marks.broken ∙ is
]
