-- Chunks of a kind that occurs once.
use Rattle.std.proofs.Common.{◌≡◌, suc, ◌+◌, ◌≤◌, Bool, true, false, cond, ◌&&◌, List, [], ◌∷◌, ◌++◌, length, Option, Some, is_some, Ok, refl, sym, ap, subst, ◌∙◌, inl, inr, append_assoc, arith}
use Rattle.std.specs.Prelude.{filter, find}
use Rattle.std.specs.List.{AllByRecursion}
use Rattle.std.proofs.lemmas.List.{append-nil, length-append, nil_from_length}
use Rattle.std.proofs.lemmas.List.Elements.{filter-append}
use Rattle.chunk_core.specs.declared.layout.Span.{Span}
use Rattle.chunk_core.proofs.Steps.{guard_ok}
use Rattle.dsdiff_core.specs.declared.fault.DsdiffFault.TheVariants.{Twice}
use Rattle.dsdiff_core.specs.Spans.{is_second, once_each}
use Rattle.dsdiff_core.proofs.KindLaws.{bool_cases, left_false}

-- at most one of the chunks is of the kind
abbrev pub AtMostOne : List Span → (Span → Bool) → Type 0
AtMostOne ss kind = length (filter kind ss) ≤ 1

-- of each kind there is at most one
abbrev pub Once : List (Span → Bool) → List Span → Type 0
Once kinds ss = AllByRecursion (AtMostOne ss) kinds

pub none_found : (kind : Span → Bool) (ss : List Span) → length (filter kind ss) ≡ 0 → is_some (find kind ss) ≡ false
none_found kind [] e = refl
none_found kind (s ∷ ss) e =
    elim (bool_cases (kind s)) [
      | inl y ↦ let f : length (s ∷ filter kind ss) ≡ 0 = rw y at e in absurd (omega (arith, f))
      | inr n ↦ rw n (none_found kind ss (rw n at e))
    ]

none_there : (kind : Span → Bool) (ss : List Span) → is_some (find kind ss) ≡ false → length (filter kind ss) ≡ 0
none_there kind [] e = refl
none_there kind (s ∷ ss) e =
    elim (bool_cases (kind s)) [
      | inl y ↦ let f : true ≡ false = rw y at e in absurd cc
      | inr n ↦ rw n (none_there kind ss (rw n at e))
    ]

counted : (kind : Span → Bool) (before ss : List Span) (s : Span) → length (filter kind (before ++ s ∷ ss)) ≡ length (filter kind before) + length (cond (kind s) (s ∷ filter kind ss) (filter kind ss))
counted kind before ss s = ap length (filter-append kind before (s ∷ ss)) ∙ length-append (filter kind before) (filter kind (s ∷ ss))

second_none : (kinds : List (Span → Bool)) (before ss : List Span) (s : Span) → Once kinds (before ++ s ∷ ss) → is_second kinds before s ≡ false
second_none [] before ss s h = refl
second_none (kind ∷ kinds) before ss s h =
    elim (bool_cases (kind s)) [
      | inl y ↦
          let many : length (filter kind (before ++ s ∷ ss)) ≡ length (filter kind before) + suc (length (filter kind ss)) = counted kind before ss s ∙ rw y refl in
          let none : is_some (find kind before) ≡ false = none_found kind before (omega (arith, many, h.0)) in
          rw (y, none) (second_none kinds before ss s h.1)
      | inr n ↦ rw n (second_none kinds before ss s h.1)
    ]

pub once_again : (kinds : List (Span → Bool)) (before ss : List Span) → Once kinds (before ++ ss) → once_each kinds before ss ≡ Ok tt
unfolding once_each
once_again kinds before [] h = refl
once_again kinds before (s ∷ ss) h =
    rw (second_none kinds before ss s h) (once_again kinds (before ++ s ∷ []) ss (subst (λ (xs : List Span). Once kinds xs) (sym (append_assoc before (s ∷ []) ss)) h))

one_on : (kind : Span → Bool) (before : List Span) (s : Span) → (kind s && is_some (find kind before)) ≡ false → AtMostOne before kind → AtMostOne (before ++ s ∷ []) kind
one_on kind before s e h =
    elim (bool_cases (kind s)) [
      | inl y ↦
          let free : is_some (find kind before) ≡ false = rw y at e in
          let many : length (filter kind (before ++ s ∷ [])) ≡ length (filter kind before) + 1 = counted kind before [] s ∙ rw y refl in
          omega (arith, many, none_there kind before free)
      | inr n ↦
          let many : length (filter kind (before ++ s ∷ [])) ≡ length (filter kind before) + 0 = counted kind before [] s ∙ rw n refl in
          omega (arith, many, h)
    ]

all_on : (kinds : List (Span → Bool)) (before : List Span) (s : Span) → is_second kinds before s ≡ false → Once kinds before → Once kinds (before ++ s ∷ [])
all_on [] before s e h = tt
all_on (kind ∷ kinds) before s e h =
    let p = left_false (kind s && is_some (find kind before)) (is_second kinds before s) e in
    (one_on kind before s p.0 h.0, all_on kinds before s p.1 h.1)

pub once_ok : (kinds : List (Span → Bool)) (before ss : List Span) (u : Unit {0}) → once_each kinds before ss ≡ Ok u → Once kinds before → Once kinds (before ++ ss)
unfolding once_each
once_ok kinds before [] u e h = subst (λ (xs : List Span). Once kinds xs) (sym (append-nil before)) h
once_ok kinds before (s ∷ ss) u e h =
    let g = guard_ok (is_second kinds before s) (Twice s.id) (once_each kinds (before ++ s ∷ []) ss) u e in
    subst (λ (xs : List Span). Once kinds xs) (append_assoc before (s ∷ []) ss) (once_ok kinds (before ++ s ∷ []) ss u g.1 (all_on kinds before s g.0 h))

pub none_yet : (kinds : List (Span → Bool)) → Once kinds []
none_yet [] = tt
none_yet (kind ∷ kinds) = (omega arith, none_yet kinds)

-- ---- the first of a kind, and the only one

abbrev there : Span → Option Span
there s = Some s

some_same : (x s : Span) → there x ≡ there s → x ≡ s
some_same x s e = cc

pub only_one : (kind : Span → Bool) (ss : List Span) (s : Span) → AtMostOne ss kind → find kind ss ≡ Some s → filter kind ss ≡ s ∷ []
only_one kind [] s h e = absurd cc
only_one kind (x ∷ ss) s h e =
    elim (bool_cases (kind x)) [
      | inl y ↦
          let same : x ≡ s = some_same x s (rw y at e) in
          let one : length (x ∷ filter kind ss) ≤ 1 = rw y at h in
          let none : filter kind ss ≡ [] = nil_from_length (filter kind ss) (omega (arith, one)) in
          rw (y, none, same) refl
      | inr n ↦ rw n (only_one kind ss s (rw n at h) (rw n at e))
    ]

pub is_found : (kind : Span → Bool) (ss : List Span) (s : Span) (r : List Span) → filter kind ss ≡ s ∷ r → find kind ss ≡ Some s
is_found kind [] s r e = absurd cc
is_found kind (x ∷ ss) s r e =
    elim (bool_cases (kind x)) [
      | inl y ↦
          let f : x ∷ filter kind ss ≡ s ∷ r = rw y at e in
          let same : x ≡ s = cc (f) in
          rw y (ap there same)
      | inr n ↦ rw n (is_found kind ss s r (rw n at e))
    ]
