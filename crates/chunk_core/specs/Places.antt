-- Where chunks are.
use Rattle.std.specs.Prelude.{◌≤◌, ℕ, ◌+◌, List, [], ◌∷◌, length, take, drop}
use Rattle.chunk_core.specs.declared.layout.Span.{Span}
use Rattle.chunk_core.specs.Chunks.{Chunk, width}

-- the spans of chunks that follow each other from a place on, each with its pad
abbrev pub places : ℕ → List Chunk → List Span
places at [] = []
places at (c ∷ cs) = record { id = c.id; start = at + 12; size = length c.content } ∷ places (at + width c) cs

-- the chunk whose data are those of a span
abbrev pub span_chunk : List ℕ → Span → Chunk
span_chunk bytes s = record { id = s.id; content = take s.size (drop s.start bytes) }

-- a range holds the data of a span and the header before them
pub record LiesIn (start stop : ℕ) (s : Span) : Type 0 where
  pub begins : start + 12 ≤ s.start
  pub ends : s.start + s.size ≤ stop
