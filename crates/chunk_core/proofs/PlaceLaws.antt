-- Where the chunks of a range are.
use Rattle.std.proofs.Common.{◌≡◌, ℕ, ◌+◌, ◌-◌, ◌≤◌, List, [], ◌∷◌, ◌++◌, length, map, take, drop, Ok, refl, sym, ap, subst, ◌∙◌, arith}
use Rattle.std.specs.Prelude.{slice_range}
use Rattle.std.proofs.lemmas.List.{length-take, length-drop}
use Rattle.chunk_core.specs.declared.layout.Span.{Span}
use Rattle.chunk_core.specs.Chunks.{Chunk, chunks, width}
use Rattle.chunk_core.specs.Laws.{SpansAgain, SpansFound}
use Rattle.chunk_core.specs.Places.{places, span_chunk}
use Rattle.chunk_core.specs.Reading.{spans_in, walk_of}
use Rattle.chunk_core.proofs.ReadingLaws.{first_parts, is_found, found_again}
use Rattle.chunk_core.proofs.Ranges.{range_inner, range_after}
use Rattle.chunk_core.proofs.Steps.{bind_ok}

-- where chunks end that follow each other from a place on, each with its pad
abbrev pub end_of : ℕ → List Chunk → ℕ
end_of at [] = at
end_of at (c ∷ cs) = end_of (at + width c) cs

-- one chunk more
pub end_push : (at : ℕ) (cs : List Chunk) (c : Chunk) → end_of at (cs ++ c ∷ []) ≡ end_of at cs + width c
end_push at [] c = refl
end_push at (d ∷ cs) c = end_push (at + width d) cs c

pub places_push : (at : ℕ) (cs : List Chunk) (c : Chunk) → places at (cs ++ c ∷ []) ≡ places at cs ++ (record { id = c.id; start = end_of at cs + 12; size = length c.content }) ∷ []
places_push at [] c = refl
places_push at (d ∷ cs) c = ap (λ (ss : List Span). record { id = d.id; start = at + 12; size = length d.content } ∷ ss) (places_push (at + width d) cs c)

-- the data of a span inside the bytes
pub span_long : (xs : List ℕ) (stop : ℕ) (s : Span) → s.start + s.size ≤ stop → stop ≤ length xs → length (take s.size (drop s.start xs)) ≡ s.size
span_long xs stop s h k = omega (arith, length-take s.size (drop s.start xs), length-drop s.start xs)

-- ---- the places in a range

-- the chunks of a range are at their places
places_back : (bytes : List ℕ) (start stop : ℕ) (cs : List Chunk) → chunks (slice_range bytes start stop) cs → map (span_chunk bytes) (places start cs) ≡ cs
places_back bytes start stop [] h = refl
places_back bytes start stop (c ∷ cs) h =
    let p = first_parts (slice_range bytes start stop) c cs h in
    let more : chunks (slice_range bytes (start + width c) stop) cs = rw (range_after bytes start stop (width c)) at p.1 in
    let n : ℕ = length c.content in
    let short : length (slice_range bytes start stop) ≤ stop - start = omega (arith, length-take (stop - start) (drop start bytes)) in
    let inner : take n (drop 12 (slice_range bytes start stop)) ≡ take n (drop (start + 12) bytes) = range_inner bytes start stop 12 n (omega (arith, p.0.long, p.0.size)) in
    let content : take n (drop (start + 12) bytes) ≡ c.content = sym inner ∙ ap (λ (k : ℕ). take k (drop 12 (slice_range bytes start stop))) (sym p.0.size) ∙ p.0.content in
    let same : span_chunk bytes (record { id = c.id; start = start + 12; size = n }) ≡ c = rw content refl in
    rw (same, places_back bytes (start + width c) stop cs more) refl

-- the spans of a range are the places of its chunks
pub spans_found : SpansFound
unfolding spans_in
spans_found bytes start stop spans e =
    let a = bind_ok (walk_of start (slice_range bytes start stop)) (λ cs. Ok (places start cs)) spans e in
    let h = is_found start (slice_range bytes start stop) a.0 a.1 in
    let same : places start a.0 ≡ spans = cc (a.2) in
    let back : map (span_chunk bytes) spans ≡ a.0 = ap (λ (ss : List Span). map (span_chunk bytes) ss) (sym same) ∙ places_back bytes start stop a.0 h in
    let P : List Chunk → Type 0 = λ cs. chunks (slice_range bytes start stop) cs × (spans ≡ places start cs) in
    subst P (sym back) (h, sym same)

-- and the chunks of a range are found at their places
pub spans_again : SpansAgain
unfolding spans_in
spans_again bytes start stop cs h = (rw (found_again start (slice_range bytes start stop) cs h) refl, places_back bytes start stop cs h)
