-- The bytes of the DSDIFF 1.5 file that holds a recording, made from lists of chunks.
use Rattle.std.specs.Prelude.{ℕ, ◌+◌, ◌%◌, ◌==◌, if◌then◌else◌, List, [], ◌∷◌, ◌++◌, codes, flat_map, length, map, replicate, Option, Some, None}
use Rattle.byteorder.specs.Endian.{big_bytes}
use Rattle.chunk_core.specs.Chunks.{Chunk, spell}
use Rattle.dsd_bits.specs.declared.marks.Place.{Place}
use Rattle.dsd_bits.specs.declared.marks.Place.TheVariants.{Property, Master, Form}
use Rattle.dsd_bits.specs.Channels.{count_of}
use Rattle.dsd_bits.specs.declared.marks.Other.{Other}
use Rattle.dsd_bits.specs.Contents.{Content, MarkContent, OtherContent, other_content}
use Rattle.dsd_bits.specs.Ids.{FVER, PROP, SND, FS, CHNL, CMPR, DSD, DIIN, MARK}
use Rattle.dsd_bits.specs.Lacing.{laced}
use Rattle.dsd_bits.specs.Shape.{at_place}
use Rattle.dsdiff_core.specs.Kinds.{FRM8}
use Rattle.dsdiff_core.specs.MarkBytes.{mark_bytes}

-- version 1.5 of the format
abbrev pub version_chunk : Chunk
version_chunk = record { id = FVER; content = 1 ∷ 5 ∷ 0 ∷ 0 ∷ [] }

-- the rate
abbrev pub rate_chunk : ℕ → Chunk
rate_chunk rate = record { id = FS; content = big_bytes 4 rate }

-- the number of channels, and their IDs
abbrev pub channels_chunk : List (List ℕ) → Chunk
channels_chunk ids = record { id = CHNL; content = big_bytes 2 (length ids) ++ flat_map (λ id. id) ids }

-- no compression: its type, the length of its name, and the name
abbrev pub compression_chunk : Chunk
compression_chunk = record { id = CMPR; content = DSD ++ 14 ∷ codes "not compressed" }

-- a mark
abbrev pub mark_chunk : MarkContent → Chunk
mark_chunk m = record { id = MARK; content = mark_bytes m }

-- a kept chunk
abbrev pub other_chunk : OtherContent → Chunk
other_chunk o = record { id = o.id; content = o.bytes }

-- the kept chunks of a place, in their order; the places are this project's
abbrev pub others_of : Place → List OtherContent → List Chunk
others_of place others = map other_chunk (at_place place others)

-- the chunks of the sound's property: the rate, the channels, no compression, and the kept chunks
abbrev pub property_chunks : Content → List Chunk
property_chunks r = rate_chunk r.rate ∷ channels_chunk r.ids ∷ compression_chunk ∷ others_of Property r.others

-- the sound's property
abbrev pub property_chunk : Content → Chunk
property_chunk r = record { id = PROP; content = SND ++ flat_map spell (property_chunks r) }

-- the sound, one byte of each channel in turn
abbrev pub sound_chunk : Content → Chunk
sound_chunk r = record { id = DSD; content = laced r.channels }

-- the chunks of the edited master: the marks, then the kept chunks
abbrev pub master_chunks : Content → List Chunk
master_chunks r = map mark_chunk r.marks ++ others_of Master r.others

-- the edited master with these chunks; there is none if there are no chunks
abbrev pub edited_master : List Chunk → List Chunk
edited_master [] = []
edited_master (c ∷ cs) = record { id = DIIN; content = flat_map spell (c ∷ cs) } ∷ []

-- the edited master of a recording, spelled
abbrev pub master_text : Content → List ℕ
master_text r = flat_map spell (edited_master (master_chunks r))

-- the kept chunks of a place, spelled
abbrev pub others_text : Place → List Other → List ℕ
others_text place others = flat_map spell (others_of place (map other_content others))

-- what follows the sound: the edited master, then the kept chunks
abbrev pub last_chunks : Content → List Chunk
last_chunks r = edited_master (master_chunks r) ++ others_of Form r.others

-- the chunks of the form
abbrev pub form_chunks : Content → List Chunk
form_chunks r = version_chunk ∷ property_chunk r ∷ sound_chunk r ∷ last_chunks r

-- a form: its ID, the size of its type and its chunks with their pads, the type, and the chunks
abbrev pub form_text : List Chunk → List ℕ
form_text cs = FRM8 ++ big_bytes 8 (4 + length (flat_map spell cs)) ++ DSD ++ flat_map spell cs

-- the file of a recording whose channels end with a whole byte
abbrev pub dsdiff_text : Content → Option (List ℕ)
dsdiff_text r = if count_of r.channels % 8 == 0 then Some (form_text (form_chunks r)) else None

-- ---- the same as three parts, of which the first and the last don't depend on the channels

-- the chunks before the sound
abbrev pub first_chunks : Content → List Chunk
first_chunks r = version_chunk ∷ property_chunk r ∷ []

-- the bytes after a sound of `size` bytes: its pad, the edited master, then the kept chunks
abbrev pub tail_text : Content → ℕ → List ℕ
tail_text r size = replicate (size % 2) 0 ++ flat_map spell (last_chunks r)

-- the size of the form for a sound of `size` bytes: its type, the chunks before the sound, the header of the sound, the
-- sound, and what follows it
abbrev pub size_around : Content → ℕ → ℕ
size_around r size = 4 + length (flat_map spell (first_chunks r)) + 12 + size + length (tail_text r size)

-- the bytes before a sound of `size` bytes: the header of the form, its type, the chunks before the sound, and the
-- header of the sound
abbrev pub head_text : Content → ℕ → List ℕ
head_text r size = FRM8 ++ big_bytes 8 (size_around r size) ++ DSD ++ flat_map spell (first_chunks r) ++ DSD ++ big_bytes 8 size
