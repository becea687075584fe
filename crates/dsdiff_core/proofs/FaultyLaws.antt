-- What the first chunks of a form tell of the fault of its file.
use Rattle.std.proofs.Common.{◌≡◌, ℕ, ◌≤◌, inl, inr, Bool, true, false, ◌&&◌, ◌||◌, List, [], ◌∷◌, ◌++◌, length, map, is_some, Result, Ok, Err, refl, sym, ap, ◌∙◌, arith}
use Rattle.std.specs.Prelude.{find}
use Rattle.std.proofs.lemmas.List.{append-nil, append_assoc}
use Rattle.chunk_core.specs.declared.layout.Span.{Span}
use Rattle.chunk_core.specs.Places.{span_chunk}
use Rattle.chunk_core.specs.Steps.{◌>>=◌}
use Rattle.dsdiff_core.specs.declared.fault.DsdiffFault.{DsdiffFault}
use Rattle.dsdiff_core.specs.declared.faulty.FaultyStart.{FaultyStart}
use Rattle.dsd_bits.specs.Ids.{FVER, DSD, same_id}
use Rattle.dsdiff_core.specs.Faulty.{AreJudged, TellFault, fault_with, first_fault, judged, kinds_of}
use Rattle.dsdiff_core.specs.Forms.{known_version}
use Rattle.dsdiff_core.specs.Properties.{PropertyFields, property_of}
use Rattle.dsdiff_core.specs.Spans.{holds_property, is_second, once_each, span_has, top_kinds}
use Rattle.dsdiff_core.proofs.KindLaws.{bool_cases}

-- ---- chunks and later ones
pub once_joined : (kinds : List (Span → Bool)) (before xs ys : List Span) → once_each kinds before (xs ++ ys) ≡ (once_each kinds before xs >>= λ u. once_each kinds (before ++ xs) ys)
unfolding once_each
once_joined kinds before [] ys = ap (λ (b : List Span). once_each kinds b ys) (sym (append-nil before))
once_joined kinds before (s ∷ ss) ys =
    elim (bool_cases (is_second kinds before s)) [
      | inl y ↦ rw y refl
      | inr n ↦ rw n (once_joined kinds (before ++ s ∷ []) ss ys ∙ ap (λ (b : List Span). once_each kinds (before ++ s ∷ []) ss >>= λ u. once_each kinds b ys) (append_assoc before (s ∷ []) ss))
    ]

pub find_joined : (test : Span → Bool) (xs ys : List Span) → is_some (find test xs) ≡ true → find test (xs ++ ys) ≡ find test xs
find_joined test [] ys e = absurd cc
find_joined test (x ∷ xs) ys e =
    elim (bool_cases (test x)) [
      | inl y ↦ rw y refl
      | inr n ↦ rw n (find_joined test xs ys (rw n at e))
    ]

pub seen_on : (test : Span → Bool) (xs : List Span) (s : Span) → is_some (find test (xs ++ s ∷ [])) ≡ (is_some (find test xs) || test s)
seen_on test [] s =
    elim (bool_cases (test s)) [
      | inl y ↦ rw y refl
      | inr n ↦ rw n refl
    ]
seen_on test (x ∷ xs) s =
    elim (bool_cases (test x)) [
      | inl y ↦ rw y refl
      | inr n ↦ rw n (seen_on test xs s)
    ]

property_joined : (file : List ℕ) (lead later : List Span) → is_some (find (holds_property file) lead) ≡ true → property_of file (lead ++ later) ≡ property_of file lead
unfolding property_of
property_joined file lead later e = rw (find_joined (holds_property file) lead later e) refl

abbrev Kinds : Type 0
Kinds = Result (Unit {0}) DsdiffFault

-- kinds of some chunks, and of later ones
kinds_joined : (file : List ℕ) (lead later : List Span) → 1 ≤ length lead → kinds_of file (lead ++ later) ≡ (kinds_of file lead >>= λ u. once_each (top_kinds file) lead later)
kinds_joined file [] later some = absurd (omega arith)
kinds_joined file (s ∷ ss) later some = by (known_version (map (span_chunk file) (s ∷ ss)))
  where
    by : (known : Kinds) → (known >>= λ u. once_each (top_kinds file) [] ((s ∷ ss) ++ later)) ≡ ((known >>= λ u. once_each (top_kinds file) [] (s ∷ ss)) >>= λ u. once_each (top_kinds file) (s ∷ ss) later)
    by (Ok u) = once_joined (top_kinds file) [] (s ∷ ss) later
    by (Err e) = refl

some_first : (file : List ℕ) (lead : List Span) → is_some (find (holds_property file) lead) ≡ true → 1 ≤ length lead
some_first file [] e = absurd cc
some_first file (s ∷ ss) e = omega arith

open_after : (fault : DsdiffFault) (r : Kinds) → (r >>= λ u. (let e : Result PropertyFields DsdiffFault = Err fault in e) >>= λ stated. (let v : Kinds = Ok tt in v)) ≡ Err (first_fault fault true r)
open_after fault (Ok u) = refl
open_after fault (Err d) = refl

-- the fault of chunks is that of all
pub told_judges : (file : List ℕ) (lead : List Span) (fault : DsdiffFault) (is_open : Bool) → TellFault file lead fault is_open → (later : List Span) → judged file (lead ++ later) ≡ Err (first_fault fault is_open (once_each (top_kinds file) lead later))
told_judges file lead fault false h later = rw (kinds_joined file lead later h.0, h.1) refl
told_judges file lead fault true h later =
    rw (kinds_joined file lead later (some_first file lead h.1), h.0, property_joined file lead later h.1, h.2) (open_after fault (once_each (top_kinds file) lead later))

-- ---- one more chunk
module _ (file : List ℕ) (lead : List Span) (s : Span) where
  abbrev Judges : List Span → DsdiffFault → Bool → Type 0
  Judges ss fault is_open = (later : List Span) → judged file (ss ++ later) ≡ Err (first_fault fault is_open (once_each (top_kinds file) ss later))

  -- with one more chunk
  judges_on : (fault : DsdiffFault) (is_open second : Bool) → Judges lead fault is_open → is_second (top_kinds file) lead s ≡ second → Judges (lead ++ s ∷ []) (fault_with fault is_open s.id second).0 (fault_with fault is_open s.id second).1
  unfolding once_each
  judges_on fault true true h is later = ap (judged file) (append_assoc lead (s ∷ []) later) ∙ h (s ∷ later) ∙ rw is refl
  judges_on fault true false h is later = ap (judged file) (append_assoc lead (s ∷ []) later) ∙ h (s ∷ later) ∙ rw is refl
  judges_on fault false second h is later = ap (judged file) (append_assoc lead (s ∷ []) later) ∙ h (s ∷ later)

  pub judged_on : (a b : FaultyStart) (id : List ℕ) (v p d second : Bool) → AreJudged file lead a → s.id ≡ id → same_id id FVER ≡ v → holds_property file s ≡ p → same_id id DSD ≡ d
      → second ≡ ((v && a.version) || ((p && a.property) || ((d && a.sound) || false))) → b.fault ≡ (fault_with a.fault a.is_open id second).0 → b.is_open ≡ (fault_with a.fault a.is_open id second).1
      → b.version ≡ (a.version || v) → b.property ≡ (a.property || p) → b.sound ≡ (a.sound || d) → AreJudged file (lead ++ s ∷ []) b
  judged_on a b id v p d second j own is_v is_p is_d is fault is_open version property sound =
      let here_v : span_has FVER s ≡ v = ap (λ (x : List ℕ). same_id x FVER) own ∙ is_v in
      let here_d : span_has DSD s ≡ d = ap (λ (x : List ℕ). same_id x DSD) own ∙ is_d in
      let is_here : is_second (top_kinds file) lead s ≡ second = (λ i. (here_v i && sym j.version i) || ((is_p i && sym j.property i) || ((here_d i && sym j.sound i) || false))) ∙ sym is in
      let on = judges_on a.fault a.is_open second j.fault is_here in
      let same : (fault_with a.fault a.is_open s.id second) ≡ (fault_with a.fault a.is_open id second) = ap (λ (x : List ℕ). fault_with a.fault a.is_open x second) own in
      record {
        fault = λ later. on later ∙ (λ i. Err (first_fault ((same i).0) ((same i).1) (once_each (top_kinds file) (lead ++ s ∷ []) later))) ∙ (λ i. Err (first_fault (sym fault i) (sym is_open i) (once_each (top_kinds file) (lead ++ s ∷ []) later)));
        version = version ∙ (λ i. j.version i || sym here_v i) ∙ sym (seen_on (span_has FVER) lead s);
        property = property ∙ (λ i. j.property i || sym is_p i) ∙ sym (seen_on (holds_property file) lead s);
        sound = sound ∙ (λ i. j.sound i || sym here_d i) ∙ sym (seen_on (span_has DSD) lead s);
      }
