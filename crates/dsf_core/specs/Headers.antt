-- Where a file holds its sound, as the bytes before it say, and which lengths and tags complete them to a file (DSF
-- 1.01). The prefix is these first bytes.
use Rattle.std.specs.Prelude.{◌≡◌, ◌≤◌, ℕ, ◌+◌, ◌-◌, ◌⊎◌, Bool, true, false, List, [], ◌++◌, length, drop, replicate, Result, Ok, Err, nat_eq, nat_lt, if◌then◌else◌}
use Rattle.chunk_core.specs.Numbers.{id_at}
use Rattle.dsd_bits.specs.declared.blocks.BitOrder.{BitOrder}
use Rattle.dsd_bits.specs.declared.interleaving.Interleaving.TheVariants.{Blocks}
use Rattle.dsd_bits.specs.declared.sound.Sound.{Sound}
use Rattle.dsd_bits.specs.declared.sound.SoundAt.{SoundAt}
use Rattle.dsd_bits.specs.declared.sound.SoundAt.TheVariants.{More, Refused, Found}
use Rattle.dsd_bits.specs.Contents.{Content, Described, with_channels}
use Rattle.dsd_bits.specs.Ids.{DSD}
use Rattle.dsd_bits.specs.Sounds.{sound_bytes, sound_channels}
use Rattle.dsd_bits.specs.Limits.{most_bits, most_channels, least_rate, greatest_rate, block_bytes}
use Rattle.dsf_core.specs.declared.fault.DsfFault.{DsfFault}
use Rattle.dsf_core.specs.declared.fault.DsfFault.TheVariants.{HeadCut, NotDsf}
use Rattle.dsf_core.specs.Fields.{FMT, DATA, first_size, stated_format_size, version, format, channel_number, rate, bits_per_sample, count, block_size, data_place, stated_data_size, sound_place, needed, stated_tag}
use Rattle.dsf_core.specs.Files.{IsDsf, sample_bits}
use Rattle.dsf_core.specs.Reading.{file_header, recording_of, stated_sound}
use Rattle.dsf_core.specs.Steps.{Fails}
use Rattle.dsf_core.specs.declared.header.Header.{Header}
use Rattle.dsf_core.specs.declared.locating.Located.{Located}
use Rattle.dsf_core.specs.declared.locating.Located.TheVariants as answers

-- the file holds some recording
abbrev pub IsAccepted : List ℕ → Type 0
IsAccepted file = (r : Content) × (order : BitOrder) × IsDsf file r order

-- the bytes hold the fields of the format chunk, and the header of the data chunk
pub record HoldsHead (prefix : List ℕ) : Type 0 where
  pub fields : 80 ≤ length prefix
  pub head : sound_place prefix ≤ length prefix

-- the prefix of a file describes this sound: it holds the headers of three chunks and all fields of the second, within
-- the limits
pub record StatesSound (prefix : List ℕ) (s : Sound) : Type 0 where
  -- three chunks, the second and the third of them with all their fields
  pub first : id_at prefix 0 ≡ DSD
  pub first_is : first_size prefix ≡ 28
  pub second : id_at prefix 28 ≡ FMT
  pub second_long : 52 ≤ stated_format_size prefix
  pub third : id_at prefix (data_place prefix) ≡ DATA
  pub third_long : 12 ≤ stated_data_size prefix
  pub whole_head : sound_place prefix ≤ length prefix
  -- raw sound of version 1, within the limits
  pub version_is : version prefix ≡ 1
  pub format_is : format prefix ≡ 0
  pub some_channel : 1 ≤ channel_number prefix
  pub six_channels : channel_number prefix ≤ most_channels
  pub rate_low : least_rate ≤ rate prefix
  pub rate_high : rate prefix ≤ greatest_rate
  pub order : BitOrder
  pub order_is : bits_per_sample prefix ≡ sample_bits order
  pub block_is : block_size prefix ≡ block_bytes
  pub not_long : count prefix ≤ most_bits
  -- the data chunk holds the needed sound bytes
  pub in_chunk : needed prefix ≤ stated_data_size prefix - 12
  pub stated : s ≡ stated_sound prefix order

-- ---- the reading of a front in order

-- the fault says that a header is cut short
abbrev pub is_cut : DsfFault → Bool
is_cut (HeadCut size) = true
is_cut _ = false

-- the sound if it was found; more bytes are needed if a header is cut short
abbrev pub as_located : Result Header DsfFault → Located
as_located (Ok prefix) = answers.Found prefix.sound
as_located (Err e) = if is_cut e then answers.More e else answers.Refused e

-- what the first bytes of a file say about its sound
unfoldable pub located : List ℕ → Located
located prefix = if nat_lt (length prefix) 4 then answers.More NotDsf else as_located (file_header prefix)

-- the same without the faults
abbrev pub without_fault : Located → SoundAt
without_fault (answers.Found s) = Found s
without_fault (answers.More e) = More
without_fault (answers.Refused e) = Refused

-- what the first bytes of a file say about its sound, without the faults
unfoldable pub sound_at : List ℕ → SoundAt
sound_at prefix = without_fault (located prefix)

-- every file that begins like this is read to this: it has this sound, or this fault; more bytes are needed if a header
-- is cut short, and a file that ends here has this fault
abbrev pub IsLocated : List ℕ → Located → Type 0
IsLocated prefix (answers.Found s) = sound_at prefix ≡ Found s
IsLocated prefix (answers.More e) = (HoldsHead prefix → ⊥) × (recording_of prefix ≡ Err e)
IsLocated prefix (answers.Refused e) = (rest : List ℕ) → recording_of (prefix ++ rest) ≡ Err e

-- the prefix describes a sound, and ends where that starts
abbrev pub EndsAtSound : List ℕ → Type 0
EndsAtSound prefix = (s : Sound) × (sound_at prefix ≡ Found s) × (s.start ≡ length prefix)

-- ---- a file whose sound isn't in memory

-- the tag of a file that begins with this prefix, which ends where the sound starts, is everything from this place on,
-- and comes after the sound; 0 for none
pub record IsTagPlace (prefix : List ℕ) (place : ℕ) : Type 0 where
  pub tag : (rest : List ℕ) → stated_tag (prefix ++ rest) ≡ (if nat_eq place 0 then [] else drop place (prefix ++ rest))
  pub after : (rest : List ℕ) → IsAccepted (prefix ++ rest) → (place ≡ 0) ⊎ ((length prefix + needed prefix ≤ place) × (place ≤ length (prefix ++ rest)))

-- what every file of n bytes that begins with this prefix and has this tag is read to: its description, with the
-- channels of its sound, or its first fault, whatever the tag; running out of memory says nothing of it
abbrev pub Describes : List ℕ → ℕ → List ℕ → Result Described DsfFault → Type 0
Describes prefix total tag (Ok d) = (rest : List ℕ) (s : Sound) (order : BitOrder) → length (prefix ++ rest) ≡ total → tag ≡ stated_tag (prefix ++ rest) → sound_at prefix ≡ Found s → s.interleaving ≡ Blocks order
    → recording_of (prefix ++ rest) ≡ Ok (with_channels d (sound_channels s.interleaving s.channels s.count (sound_bytes (prefix ++ rest) s)), order)
Describes prefix total tag (Err e) = (rest : List ℕ) → length (prefix ++ rest) ≡ total → Fails e (recording_of (prefix ++ rest))

-- the description fits recordings with this sound
pub record DescribesSound (s : Sound) (d : Described) : Type 0 where
  pub rate : d.rate ≡ s.rate
  pub number : length d.ids ≡ s.channels
  pub count : d.count ≡ s.count

-- what a file of n bytes that begins with this prefix and has this tag holds besides its bits: with the channels of the
-- sound after the prefix in place of the empty ones it is the recording
pub record IsOutline (prefix : List ℕ) (total : ℕ) (tag : List ℕ) (outline : Content) : Type 0 where
  pub no_bits : (s : Sound) → sound_at prefix ≡ Found s → outline.channels ≡ replicate s.channels []
  pub filled : (rest : List ℕ) (s : Sound) (order : BitOrder) → length (prefix ++ rest) ≡ total → tag ≡ stated_tag (prefix ++ rest) → sound_at prefix ≡ Found s → s.interleaving ≡ Blocks order
      → IsDsf (prefix ++ rest) (record outline { channels = sound_channels s.interleaving s.channels s.count (sound_bytes (prefix ++ rest) s) }) order
