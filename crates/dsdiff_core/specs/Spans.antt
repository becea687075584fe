-- Chunks of a file by their places: their kinds, and those that may be there once.
use Rattle.std.specs.Prelude.{ℕ, Bool, false, ◌&&◌, ◌||◌, List, [], ◌∷◌, ◌++◌, find, Option, is_some, option_map, Result, Ok, Err, if◌then◌else◌}
use Rattle.chunk_core.specs.declared.layout.Span.{Span}
use Rattle.chunk_core.specs.Places.{span_chunk}
use Rattle.dsd_bits.specs.Ids.{same_id, FVER, FS, CHNL, CMPR, DSD}
use Rattle.dsdiff_core.specs.declared.fault.DsdiffFault.{DsdiffFault}
use Rattle.dsdiff_core.specs.declared.fault.DsdiffFault.TheVariants.{Twice}
use Rattle.dsdiff_core.specs.Kinds.{is_property}

-- the span's chunk has this ID
abbrev pub span_has : List ℕ → Span → Bool
span_has id s = same_id s.id id

-- the span's chunk is a property of the sound
abbrev pub holds_property : List ℕ → Span → Bool
holds_property file s = is_property (span_chunk file s)

-- the data of the first chunk with this ID
abbrev pub data_with : List ℕ → List ℕ → List Span → Option (List ℕ)
data_with file id spans = option_map (λ s. (span_chunk file s).content) (find (span_has id) spans)

-- the kinds of chunk that may be there once in the form
abbrev pub top_kinds : List ℕ → List (Span → Bool)
top_kinds file = span_has FVER ∷ holds_property file ∷ span_has DSD ∷ []

-- the kinds of chunk that may be there once in the sound property
abbrev pub property_kinds : List (Span → Bool)
property_kinds = span_has FS ∷ span_has CHNL ∷ span_has CMPR ∷ []

-- the chunk is of one of the kinds, and so is one before it
abbrev pub is_second : List (Span → Bool) → List Span → Span → Bool
is_second [] before s = false
is_second (kind ∷ kinds) before s = (kind s && is_some (find kind before)) || is_second kinds before s

-- none of the chunks is the second of its kind, counting those before; else the first that is one
unfoldable pub once_each : List (Span → Bool) → List Span → List Span → Result (Unit {0}) DsdiffFault
once_each kinds before [] = Ok tt
once_each kinds before (s ∷ ss) = if is_second kinds before s then Err (Twice s.id) else once_each kinds (before ++ s ∷ []) ss
