-- Chunks that are kept as they are.
use Rattle.std.specs.Prelude.{ℕ, Bool, not, List, map, filter, Vec}
use Rattle.std.specs.declared.alloc.Global.{Global}
use Rattle.chunk_core.specs.Chunks.{Chunk}
use Rattle.chunk_core.specs.Places.{span_chunk}
use Rattle.chunk_core.specs.declared.layout.Span.{Span}
use Rattle.dsd_bits.specs.declared.marks.Other.{Other}
use Rattle.dsd_bits.specs.declared.marks.Place.{Place}
use Rattle.dsd_bits.specs.Contents.{OtherContent, other_content}
use Rattle.dsd_bits.specs.Shape.{has_part}

-- a chunk of a place as it is kept
abbrev pub other_in : Place → Chunk → OtherContent
other_in place c = record { place = place; id = c.id; bytes = c.content }

-- the chunks of a place that are kept, in their order: a recording has no part of its own for them
abbrev pub kept : Place → List Chunk → List OtherContent
kept place cs = map (other_in place) (filter (λ c. not (has_part place c.id c.content)) cs)

-- the chunks of a file at these places, as far as they are kept
abbrev pub kept_at : List ℕ → Place → List Span → List OtherContent
kept_at file place spans = kept place (map (span_chunk file) spans)

-- a recording has a part of its own for the chunk of a file at this place
abbrev pub has_part_in : List ℕ → Place → Span → Bool
has_part_in file place s = has_part place (span_chunk file s).id (span_chunk file s).content

-- the kept chunks in memory
abbrev pub contents : Vec Other Global → List OtherContent
contents others = map other_content others.items
