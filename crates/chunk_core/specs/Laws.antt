-- Laws: how the words of the contracts are related.
use Rattle.std.specs.Prelude.{◌≡◌, ℕ, List, map, slice_range, All, Ok}
use Rattle.std.specs.List.{flat_map}
use Rattle.chunk_core.specs.declared.layout.Span.{Span}
use Rattle.chunk_core.specs.Chunks.{Chunk, CanBeWritten, chunks, spell}
use Rattle.chunk_core.specs.Places.{places, span_chunk}
use Rattle.chunk_core.specs.Reading.{spans_in}

-- bytes are the bytes of at most one list of chunks
abbrev pub OneList : Type 0
OneList = (bytes : List ℕ) (cs ds : List Chunk) → chunks bytes cs → chunks bytes ds → cs ≡ ds

-- chunks that are written one after the other are read as these chunks
abbrev pub SpelledAgain : Type 0
SpelledAgain = (cs : List Chunk) → All CanBeWritten cs → chunks (flat_map spell cs) cs

-- the spans that are found in a range are the places of its chunks
abbrev pub SpansFound : Type 0
SpansFound =
    (bytes : List ℕ) (start stop : ℕ) (spans : List Span) → spans_in bytes start stop ≡ Ok spans
    → chunks (slice_range bytes start stop) (map (span_chunk bytes) spans) × (spans ≡ places start (map (span_chunk bytes) spans))

-- the chunks of a range are found at their places, and are the chunks there
abbrev pub SpansAgain : Type 0
SpansAgain =
    (bytes : List ℕ) (start stop : ℕ) (cs : List Chunk) → chunks (slice_range bytes start stop) cs
    → (spans_in bytes start stop ≡ Ok (places start cs)) × (map (span_chunk bytes) (places start cs) ≡ cs)
