-- The form: where it ends, its version, its chunks.
use Rattle.std.specs.Prelude.{ℕ, ◌+◌, ◌-◌, not, List, [], ◌∷◌, length, map, take, drop, slice_index, Some, None, Result, Ok, Err, nat_eq, nat_lt, if◌then◌else◌}
use Rattle.chunk_core.specs.declared.layout.Span.{Span}
use Rattle.chunk_core.specs.Chunks.{Chunk}
use Rattle.chunk_core.specs.Places.{span_chunk}
use Rattle.chunk_core.specs.Reading.{spans_in}
use Rattle.chunk_core.specs.Steps.{◌>>=◌}
use Rattle.dsd_bits.specs.Ids.{same_id, FVER, DSD}
use Rattle.dsdiff_core.specs.declared.fault.DsdiffFault.{DsdiffFault}
use Rattle.dsdiff_core.specs.declared.fault.DsdiffFault.TheVariants.{NotDsdiff, FormCut, NoVersion, BadVersion}
use Rattle.dsdiff_core.specs.Fields.{form_size, form_end}
use Rattle.dsdiff_core.specs.Kinds.{FRM8, has_id}
use Rattle.dsdiff_core.specs.Spans.{once_each, top_kinds}
use Rattle.dsdiff_core.specs.Steps.{walked}

-- the fault of a form of this size in a file of `total` bytes, which has fewer bytes after its first 12
abbrev pub cut_form : ℕ → ℕ → DsdiffFault
cut_form size total = FormCut size (size - (total - 12))

-- where the form ends; one byte may be missing, the last pad
unfoldable pub form_end_in : List ℕ → Result ℕ DsdiffFault
form_end_in file =
    if nat_lt (length file) 16 then Err NotDsdiff
    else if not (same_id (take 4 file) FRM8) then Err NotDsdiff
    else if not (same_id (take 4 (drop 12 file)) DSD) then Err NotDsdiff
    else if nat_lt (form_size file) 4 then Err (FormCut (form_size file) 0)
    else if nat_lt (length file + 1) (12 + form_size file) then Err (cut_form (form_size file) (length file))
    else Ok (form_end file)

-- the first chunk is a version that is known
abbrev pub known_version : List Chunk → Result (Unit {0}) DsdiffFault
known_version [] = Err (NoVersion None)
known_version (c ∷ cs) =
    if not (has_id FVER c) then Err (NoVersion (Some c.id))
    else if nat_lt (length c.content) 4 then Err (NoVersion (Some c.id))
    else if nat_eq (slice_index c.content 0) 1 then Ok tt
    else Err (BadVersion (take 4 c.content))

-- the chunks of the form
unfoldable pub top_of : List ℕ → Result (List Span) DsdiffFault
top_of file = do
  stop ← form_end_in file
  top ← walked (spans_in file 16 stop)
  known ← known_version (map (span_chunk file) top)
  once ← once_each (top_kinds file) [] top
  Ok top
