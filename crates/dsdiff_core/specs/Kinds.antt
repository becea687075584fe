-- What kind a chunk of a DSDIFF 1.5 file is.
use Rattle.std.specs.Prelude.{ℕ, Bool, ◌&&◌, List, codes, nat_eq}
use Rattle.std.specs.List.{starts_with}
use Rattle.chunk_core.specs.Chunks.{Chunk}
use Rattle.dsd_bits.specs.Ids.{same_id, PROP, SND}

-- the form that is the whole file
abbrev pub FRM8 : List ℕ
FRM8 = codes "FRM8"

-- the chunk has this ID
abbrev pub has_id : List ℕ → Chunk → Bool
has_id id c = same_id c.id id

-- the chunk is a property of the sound
abbrev pub is_property : Chunk → Bool
is_property c = has_id PROP c && starts_with nat_eq c.content SND
