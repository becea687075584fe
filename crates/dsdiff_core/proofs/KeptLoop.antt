-- The loops that keep some of the chunks.
use Rattle.std.proofs.Common.{◌≡◌, ℕ, ◌+◌, ◌<◌, Bool, true, false, cond, List, [], ◌∷◌, ◌++◌, length, get_or, map, take, refl, ap, ◌∙◌}
use Rattle.std.specs.Prelude.{filter}
use Rattle.std.proofs.lemmas.List.{append-nil, take_more, map_push}
use Rattle.chunk_core.specs.declared.layout.Span.{Span}
use Rattle.chunk_core.specs.Chunks.{Chunk}
use Rattle.chunk_core.specs.Places.{span_chunk}

-- those of the first chunks that pass a test, changed
abbrev pub passed : {X : Type 0} → (Chunk → X) → (Chunk → Bool) → List ℕ → List Span → List X
passed f test file ss = map f (filter test (map (span_chunk file) ss))

one_more : {X : Type 0} (f : Chunk → X) (test : Chunk → Bool) (cs : List Chunk) (c : Chunk) → map f (filter test (cs ++ c ∷ [])) ≡ map f (filter test cs) ++ map f (filter test (c ∷ []))
one_more f test [] c = refl
one_more f test (d ∷ cs) c =
    elim (test d) as (λ b. map f (cond b (d ∷ filter test (cs ++ c ∷ [])) (filter test (cs ++ c ∷ []))) ≡ map f (cond b (d ∷ filter test cs) (filter test cs)) ++ map f (filter test (c ∷ []))) [
      | true ↦ ap (λ (xs : List _). f d ∷ xs) (one_more f test cs c)
      | false ↦ one_more f test cs c
    ]

step : {X : Type 0} (f : Chunk → X) (test : Chunk → Bool) (file : List ℕ) (ss : List Span) (i : ℕ) (d : Span) → i < length ss
    → passed f test file (take (i + 1) ss) ≡ passed f test file (take i ss) ++ map f (filter test (span_chunk file (get_or ss i d) ∷ []))
step f test file ss i d lt =
    ap (λ (xs : List Span). passed f test file xs) (take_more ss i d lt)
    ∙ ap (λ (cs : List Chunk). map f (filter test cs)) (map_push (span_chunk file) (take i ss) (get_or ss i d))
    ∙ one_more f test (map (span_chunk file) (take i ss)) (span_chunk file (get_or ss i d))

-- a chunk that passes
pub passed_more : {X : Type 0} (f : Chunk → X) (test : Chunk → Bool) (file : List ℕ) (ss : List Span) (i : ℕ) (d : Span) → i < length ss → test (span_chunk file (get_or ss i d)) ≡ true
    → passed f test file (take (i + 1) ss) ≡ passed f test file (take i ss) ++ f (span_chunk file (get_or ss i d)) ∷ []
passed_more f test file ss i d lt e = step f test file ss i d lt ∙ rw e refl

-- a chunk that does not
pub passed_by : {X : Type 0} (f : Chunk → X) (test : Chunk → Bool) (file : List ℕ) (ss : List Span) (i : ℕ) (d : Span) → i < length ss → test (span_chunk file (get_or ss i d)) ≡ false
    → passed f test file (take (i + 1) ss) ≡ passed f test file (take i ss)
passed_by f test file ss i d lt e = step f test file ss i d lt ∙ rw e (append-nil (passed f test file (take i ss)))
