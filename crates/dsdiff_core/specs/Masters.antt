-- The chunks of the edited masters.
use Rattle.std.specs.Prelude.{ℕ, ◌+◌, Bool, true, ◌&&◌, ◌||◌, not, List, [], ◌∷◌, ◌++◌, length, map, Result, Ok, Err, nat_le, if◌then◌else◌}
use Rattle.chunk_core.specs.declared.layout.Span.{Span}
use Rattle.chunk_core.specs.Chunks.{Chunk}
use Rattle.chunk_core.specs.Places.{span_chunk}
use Rattle.chunk_core.specs.Reading.{spans_in}
use Rattle.chunk_core.specs.Steps.{◌>>=◌}
use Rattle.dsd_bits.specs.Ids.{DIIN, MARK}
use Rattle.dsdiff_core.specs.declared.fault.DsdiffFault.{DsdiffFault}
use Rattle.dsdiff_core.specs.declared.fault.DsdiffFault.TheVariants.{BadMark}
use Rattle.dsdiff_core.specs.Kinds.{has_id}
use Rattle.dsdiff_core.specs.Marks.{text_size}
use Rattle.dsdiff_core.specs.Steps.{walked}

-- a chunk that is not a mark, or a whole mark
abbrev pub is_no_cut_mark : Chunk → Bool
is_no_cut_mark c = not (has_id MARK c) || (nat_le 22 (length c.content) && nat_le (22 + text_size c.content) (length c.content))

-- none of the chunks is a mark that is cut short
abbrev pub has_no_cut_mark : List Chunk → Bool
has_no_cut_mark [] = true
has_no_cut_mark (c ∷ cs) = is_no_cut_mark c && has_no_cut_mark cs

-- the chunks of one edited master
unfoldable pub chunks_of_master : List ℕ → Span → Result (List Span) DsdiffFault
chunks_of_master file s = do
  inner ← walked (spans_in file s.start (s.start + s.size))
  if has_no_cut_mark (map (span_chunk file) inner) then Ok inner else Err BadMark

-- the chunks of each edited master, one master after the other
unfoldable pub masters_of : List ℕ → List Span → Result (List Span) DsdiffFault
masters_of file [] = Ok []
masters_of file (s ∷ ss) = if has_id DIIN (span_chunk file s) then (do
  inner ← chunks_of_master file s
  rest ← masters_of file ss
  Ok (inner ++ rest)) else masters_of file ss
