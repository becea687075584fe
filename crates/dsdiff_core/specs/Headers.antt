-- Where a file holds its sound, as the bytes before it say (DSDIFF 1.5). The prefix is these first bytes.
use Rattle.std.specs.Prelude.{◌≡◌, ◌≤◌, ℕ, zero, suc, ◌+◌, ◌*◌, ◌/◌, ◌%◌, ◌-◌, not, List, [], ◌∷◌, filter, length, map, take, drop, slice_index, slice_range, Option, Some, None, Result, Ok, Err, nat_eq, nat_lt, if◌then◌else◌}
use Rattle.byteorder.specs.Endian.{big_number}
use Rattle.chunk_core.specs.declared.fault.ChunkFault.TheVariants.{DataCut}
use Rattle.chunk_core.specs.declared.layout.Span.{Span}
use Rattle.chunk_core.specs.Chunks.{Chunk, chunks, width}
use Rattle.chunk_core.specs.Places.{span_chunk}
use Rattle.chunk_core.specs.Reading.{spans_in}
use Rattle.chunk_core.specs.Steps.{◌>>=◌}
use Rattle.dsd_bits.specs.declared.interleaving.Interleaving.TheVariants.{Bytes}
use Rattle.dsd_bits.specs.declared.sound.Sound.{Sound}
use Rattle.dsd_bits.specs.declared.sound.SoundAt.{SoundAt}
use Rattle.dsd_bits.specs.declared.sound.SoundAt.TheVariants.{More, Refused, Found}
use Rattle.dsd_bits.specs.Contents.{Content}
use Rattle.dsd_bits.specs.Ids.{same_id, FVER, DSD}
use Rattle.dsd_bits.specs.Limits.{most_bits}
use Rattle.dsdiff_core.specs.declared.fault.DsdiffFault.{DsdiffFault}
use Rattle.dsdiff_core.specs.declared.fault.DsdiffFault.TheVariants.{NotDsdiff, FormCut, Chunk as ChunkFails, NoSound, PartFrame, TooLong}
use Rattle.dsdiff_core.specs.Fields.{form_size}
use Rattle.dsdiff_core.specs.Files.{IsDsdiff, StatesProperty}
use Rattle.dsdiff_core.specs.Forms.{known_version}
use Rattle.dsdiff_core.specs.Kinds.{FRM8, has_id, is_property}
use Rattle.dsdiff_core.specs.Properties.{property_of}
use Rattle.dsdiff_core.specs.Spans.{once_each, top_kinds}
use Rattle.dsdiff_core.specs.Steps.{walked}

-- the file holds some recording
abbrev pub IsAccepted : List ℕ → Type 0
IsAccepted file = (r : Content) × IsDsdiff file r

-- the size in the header at a place
abbrev pub size_at : List ℕ → ℕ → ℕ
size_at prefix at = big_number 8 (drop (at + 4) prefix)

-- the fault of the chunk whose header is at a place and whose data are cut
abbrev pub data_cut : List ℕ → ℕ → DsdiffFault
data_cut prefix at = ChunkFails (DataCut at (take 4 (drop at prefix)) (size_at prefix at))

-- the place after chunks that follow each other from a place on, each with its pad
abbrev pub place_after : ℕ → List Chunk → ℕ
place_after at [] = at
place_after at (c ∷ cs) = place_after (at + width c) cs

-- the bytes hold the header of the sound: chunks of the form, none of which is a sound, lead up to it
pub record HoldsHead (prefix : List ℕ) : Type 0 where
  pub at : ℕ
  pub before : List Chunk
  pub are_before : chunks (slice_range prefix 16 at) before
  pub no_gap : place_after 16 before ≡ at
  pub no_sound : filter (has_id DSD) before ≡ []
  pub id : take 4 (drop at prefix) ≡ DSD
  pub whole : at + 12 ≤ length prefix

-- the prefix of a file describes this sound: it has a form, chunks none of which is a sound, the header of the sound,
-- and what version and sound property say
pub record StatesSound (prefix : List ℕ) (s : Sound) : Type 0 where
  -- the form begins
  pub form : take 4 prefix ≡ FRM8
  pub kind : take 4 (drop 12 prefix) ≡ DSD
  -- its chunks up to the sound: the version first and once, and one sound property
  pub at : ℕ
  pub before : List Chunk
  pub are_before : chunks (slice_range prefix 16 at) before
  pub no_gap : place_after 16 before ≡ at
  pub no_sound : filter (has_id DSD) before ≡ []
  pub version : Chunk
  pub later : List Chunk
  pub version_first : before ≡ version ∷ later
  pub version_once : filter (has_id FVER) before ≡ version ∷ []
  pub version_long : 4 ≤ length version.content
  pub version_main : slice_index version.content 0 ≡ 1
  pub property : Chunk
  pub one_property : filter is_property before ≡ property ∷ []
  pub property_states : StatesProperty property s.rate s.channels
  -- the header of the sound, whose bytes end in the form, if not in the prefix: whole frames of them
  pub id : take 4 (drop at prefix) ≡ DSD
  pub whole_head : at + 12 ≤ length prefix
  pub in_form : at + size_at prefix at ≤ form_size prefix
  pub start : s.start ≡ at + 12
  pub size : s.size ≡ size_at prefix at
  pub whole : s.size % s.channels ≡ 0
  pub count : s.count ≡ 8 * (s.size / s.channels)
  pub not_long : s.count ≤ most_bits
  pub interleaving : s.interleaving ≡ Bytes

-- ---- the reading of a front in order

-- the place of the first header of a sound among chunks from a place on, in a form of this size and in at most n steps;
-- none if more bytes are needed
unfoldable pub seek_for : ℕ → ℕ → List ℕ → ℕ → Result (Option ℕ) DsdiffFault
seek_for zero at prefix size = Ok None
seek_for (suc steps) at prefix size =
    if nat_lt size at then Err NoSound
    else if nat_lt (length prefix) (at + 12) then Ok None
    else if nat_lt size (at + size_at prefix at) then Err (data_cut prefix at)
    else if same_id (take 4 (drop at prefix)) DSD then Ok (Some at)
    else if nat_lt (length prefix) (at + 12 + size_at prefix at) then Ok None
    else seek_for steps (at + (12 + size_at prefix at + size_at prefix at % 2)) prefix size

-- the place of the header of the sound: there are no more chunks than bytes
unfoldable pub seek : List ℕ → Result (Option ℕ) DsdiffFault
seek prefix = seek_for (length prefix) 16 prefix (form_size prefix)

-- the form begins
unfoldable pub form_of : List ℕ → Result (Unit {0}) DsdiffFault
form_of prefix =
    if not (same_id (take 4 prefix) FRM8) then Err NotDsdiff
    else if not (same_id (take 4 (drop 12 prefix)) DSD) then Err NotDsdiff
    else if nat_lt (form_size prefix) 4 then Err (FormCut (form_size prefix) 0)
    else Ok tt

-- the place of the header of the sound that the prefix of a file leads to; none if more bytes are needed
unfoldable pub sound_head_place : List ℕ → Result (Option ℕ) DsdiffFault
sound_head_place prefix = if nat_lt (length prefix) 16 then Ok None else do
  form ← form_of prefix
  seek prefix

-- the size is that of whole frames of n channels, within the limit
abbrev pub frames_fit : ℕ → ℕ → Result (Unit {0}) DsdiffFault
frames_fit size number =
    if not (nat_eq (size % number) 0) then Err (PartFrame size number)
    else if nat_lt most_bits (8 * (size / number)) then Err (TooLong size number)
    else Ok tt

-- the sound of this rate, channel number and size whose header is at a place
abbrev pub sound_of_fields : ℕ → ℕ → ℕ → ℕ → Sound
sound_of_fields rate number at size = record {
  rate = rate;
  channels = number;
  count = 8 * (size / number);
  start = at + 12;
  size = size;
  interleaving = Bytes;
}

-- the chunks of the form up to a place
unfoldable pub leading_of : List ℕ → ℕ → Result (List Span) DsdiffFault
leading_of prefix at = do
  top ← walked (spans_in prefix 16 at)
  known ← known_version (map (span_chunk prefix) top)
  once ← once_each (top_kinds prefix) [] top
  Ok top

-- the sound whose header is at a place, if the chunks before it say what it is
unfoldable pub sound_with_head : List ℕ → ℕ → Result Sound DsdiffFault
sound_with_head prefix at = do
  top ← leading_of prefix at
  stated ← property_of prefix top
  frames ← frames_fit (size_at prefix at) (length stated.ids)
  Ok (sound_of_fields stated.rate (length stated.ids) at (size_at prefix at))

-- the sound that the prefix of a file leads to; none if more bytes are needed
abbrev pub sound_from : List ℕ → Option ℕ → Result (Option Sound) DsdiffFault
sound_from prefix None = Ok None
sound_from prefix (Some at) = sound_with_head prefix at >>= λ s. Ok (Some s)

-- the sound of files that begin with this prefix; none if more bytes are needed, a fault if no such file is accepted
unfoldable pub sound_in : List ℕ → Result (Option Sound) DsdiffFault
sound_in prefix = do
  place ← sound_head_place prefix
  sound_from prefix place

-- the result without the fault
abbrev pub as_sound_at : Result (Option Sound) DsdiffFault → SoundAt
as_sound_at (Ok (Some s)) = Found s
as_sound_at (Ok None) = More
as_sound_at (Err e) = Refused

-- what the prefix of a file says about its sound
abbrev pub sound_at : List ℕ → SoundAt
sound_at prefix = as_sound_at (sound_in prefix)

-- the prefix of a file describes this sound, and ends where that starts
pub record EndsAt (prefix : List ℕ) (s : Sound) : Type 0 where
  pub found : sound_at prefix ≡ Found s
  pub start : s.start ≡ length prefix

-- ---- after the sound

-- the number of bytes of the form after a sound of this size, of which the last may be missing
abbrev pub left_after : List ℕ → ℕ → ℕ
left_after prefix size = 12 + form_size prefix - (length prefix + size)

-- the prefix of a file describes a sound, and ends where that starts
abbrev pub EndsAtSound : List ℕ → Type 0
EndsAtSound prefix = (s : Sound) × EndsAt prefix s
