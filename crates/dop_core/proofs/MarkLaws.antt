-- The markers of a piece that comes after whole frames.
use Rattle.std.proofs.Common.{◌≡◌, ℕ, ◌+◌, ◌*◌, ◌≤◌, inl, inr, cond, eqb, List, ◌++◌, Option, None, Some, length, slice_index, sym, ap, ◌∙◌, arith}
use Rattle.std.proofs.lemmas.Bool.{cases_eq}
use Rattle.std.proofs.lemmas.List.{get_or-append-add, get_or_append_left}
use Rattle.std.proofs.lemmas.Nat.{mul-le}
use Rattle.dop_core.specs.declared.markers.Marks.{Marks}
use Rattle.dop_core.specs.Markers.{AreMarks, plus}
use Rattle.dop_core.specs.Reading.{broken_from, phase}
use Rattle.dop_core.proofs.MarkerLaws.{broken_both, no_samples, nothing_times, or_else}

module _ (n : ℕ) (some : 1 ≤ n) (m : Marks) (done frames : ℕ) (sound piece : List ℕ) (marks : AreMarks n m done sound) (long : length sound ≡ 3 * (done * n)) (first : ℕ) (begins : done ≡ 0 → first ≡ phase piece) (later : 1 ≤ done → first ≡ m.first) where
  abbrev phase_of : ℕ → ℕ
  phase_of k = cond (eqb k 250) 1 0

  phase_by : (a b : ℕ) → a ≡ b → phase_of a ≡ phase_of b
  phase_by a b is = ap phase_of is

  phase_is : first ≡ phase (sound ++ piece)
  phase_is = elim (cases_eq done 0) [
    | inl none ↦
        let empty : length sound ≡ 0 = omega (arith, long, nothing_times done n none) in
        let at : 2 ≡ length sound + 2 = omega (arith, empty) in
        begins none ∙ phase_by (slice_index piece 2) (slice_index (sound ++ piece) 2) (sym (ap (slice_index (sound ++ piece)) at ∙ get_or-append-add sound piece 2 0))
    | inr more ↦
        let three : 1 * 1 ≤ done * n = mul-le 1 1 done n (omega (arith, more)) some in
        later (omega (arith, more)) ∙ marks.first (omega (arith, more)) ∙ phase_by (slice_index sound 2) (slice_index (sound ++ piece) 2) (sym (get_or_append_left sound piece 0 2 (omega (arith, long, three))))
  ]

  before : broken_from n first sound 0 (done * n) ≡ m.broken
  before = elim (cases_eq done 0) [
    | inl none ↦ no_samples n first sound (done * n) (nothing_times done n none) ∙ sym (no_samples n m.first sound (done * n) (nothing_times done n none)) ∙ sym marks.broken
    | inr more ↦ ap (λ k. broken_from n k sound 0 (done * n)) (later (omega (arith, more))) ∙ sym marks.broken
  ]

  both : broken_from n first (sound ++ piece) 0 ((done + frames) * n) ≡ or_else m.broken (plus done (broken_from n (first + done) piece 0 (frames * n)))
  both = broken_both n first sound piece done frames some long ∙ ap (λ (o : Option ℕ). or_else o (plus done (broken_from n (first + done) piece 0 (frames * n)))) before

  pub marks_broken : (frame : ℕ) → m.broken ≡ Some frame → AreMarks n (record { first = first; broken = Some frame }) (done + frames) (sound ++ piece)
  marks_broken frame is = record {
    first = λ h. phase_is;
    broken = sym (both ∙ ap (λ (o : Option ℕ). or_else o (plus done (broken_from n (first + done) piece 0 (frames * n)))) is);
  }

  pub marks_whole : m.broken ≡ None → (o : Option ℕ) → o ≡ plus done (broken_from n (first + done) piece 0 (frames * n)) → AreMarks n (record { first = first; broken = o }) (done + frames) (sound ++ piece)
  marks_whole is o next = record {
    first = λ h. phase_is;
    broken = next ∙ sym (both ∙ ap (λ (p : Option ℕ). or_else p (plus done (broken_from n (first + done) piece 0 (frames * n)))) is);
  }
