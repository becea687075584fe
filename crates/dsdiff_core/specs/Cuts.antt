-- Files that are cut inside a chunk of the form.
use Rattle.std.specs.Prelude.{◌≡◌, ◌≤◌, ◌<◌, ℕ, ◌+◌, ◌-◌, List, ◌++◌, length, take, drop, slice_range, Err, nat_lt, if◌then◌else◌}
use Rattle.chunk_core.specs.Chunks.{Chunk, chunks}
use Rattle.dsd_bits.specs.Ids.{DSD}
use Rattle.dsdiff_core.specs.declared.fault.DsdiffFault.{DsdiffFault}
use Rattle.dsdiff_core.specs.Fields.{form_end, form_size}
use Rattle.dsdiff_core.specs.Forms.{cut_form}
use Rattle.dsdiff_core.specs.Headers.{data_cut, place_after, size_at}
use Rattle.dsdiff_core.specs.Kinds.{FRM8}
use Rattle.dsdiff_core.specs.Reading.{recording_of}

-- a form begins in the prefix, which ends with the head of a chunk of the form, after whole chunks
pub record EndsAtChunk (prefix : List ℕ) : Type 0 where
  pub form : take 4 prefix ≡ FRM8
  pub kind : take 4 (drop 12 prefix) ≡ DSD
  pub at : ℕ
  pub before : List Chunk
  pub are_before : chunks (slice_range prefix 16 at) before
  pub no_gap : place_after 16 before ≡ at
  pub ends : at + 12 ≡ length prefix
  pub head_in_form : at ≤ form_size prefix

-- the size in the head at the end of the prefix
abbrev pub last_size : List ℕ → ℕ
last_size prefix = size_at prefix (length prefix - 12)

-- the data of the chunk whose head ends the prefix go past the end of the form
abbrev pub GoesPastForm : List ℕ → Type 0
GoesPastForm prefix = EndsAtChunk prefix × (12 + form_size prefix < length prefix + last_size prefix)

-- the fault of a file of `total` bytes with this prefix, if the form or the file ends within the data of its last chunk
abbrev pub cut_fault : List ℕ → ℕ → DsdiffFault
cut_fault prefix total = if nat_lt (total + 1) (12 + form_size prefix) then cut_form (form_size prefix) total else data_cut prefix (length prefix - 12)

-- where the data of the last chunk of the prefix go past the end of the form, or of the file, this is the fault
abbrev pub CutIsRefused : Type 0
CutIsRefused =
    (prefix rest : List ℕ) → EndsAtChunk prefix → form_end (prefix ++ rest) < length prefix + last_size prefix → recording_of (prefix ++ rest) ≡ Err (cut_fault prefix (length (prefix ++ rest)))

-- bytes after the form, whose last pad is there, change nothing of what is read, nor of the fault
abbrev pub FormIsRead : Type 0
FormIsRead = (file rest : List ℕ) → 16 ≤ length file → 12 + form_size file ≤ length file → recording_of (file ++ rest) ≡ recording_of file
