-- What a file of DoP samples has around its samples.
use Rattle.std.specs.Prelude.{◌≡◌, ◌≤◌, ◌<◌, ℕ, ◌+◌, ◌*◌, ◌^◌, List, [], ◌++◌, length, None, Ok, Option, replicate}
use Rattle.std.specs.Io.KnownBytes.{IsAtEnd}
use Rattle.chunk_core.specs.Inlets.{PullsBytes, inlet_reader}
use Rattle.chunk_core.specs.declared.inlet.Inlet.{Inlet}
use Rattle.dsd_bits.specs.Contents.{Content, with_channels}
use Rattle.dop_core.specs.declared.head.DopHead.{DopHead}
use Rattle.dop_core.specs.declared.outline.DopOutline.{DopOutline}
use Rattle.dop_core.specs.Reading.{broken_from, count_in, described_by, dop_channels, head_of}
use Rattle.dop_core.specs.Sounds.{sound_long}

-- a file of these samples in an outline
abbrev pub file_in : DopOutline → List ℕ → List ℕ
file_in o sound = o.front.items ++ (sound ++ o.back.items)

-- what the bytes around the samples say, whichever bytes these have
pub record IsOutline (o : DopOutline) : Type 0 where
  pub start : o.head.start ≡ length o.front.items
  pub some : 1 ≤ o.head.channels
  pub six : o.head.channels ≤ 6
  pub rate_low : 1000000 ≤ o.head.rate
  pub rate_high : o.head.rate ≤ 50000000
  pub few : o.head.frames ≤ 2 ^ 32
  pub either : o.first ≤ 1
  pub most : o.count ≤ 16 * o.head.frames
  pub least : 16 * o.head.frames < o.count + 16
  pub heads : (sound : List ℕ) → length sound ≡ sound_long o.head → head_of (file_in o sound) ≡ Ok o.head
  pub counts : (sound : List ℕ) → length sound ≡ sound_long o.head → count_in (file_in o sound) o.head ≡ Ok o.count

-- these bytes are the samples of an outline: as many as there should be, with their markers
pub record AreSamples (o : DopOutline) (sound : List ℕ) : Type 0 where
  pub long : length sound ≡ sound_long o.head
  pub marked : broken_from o.head.channels o.first sound 0 (o.head.frames * o.head.channels) ≡ None

-- the file is an outline with some samples
pub record IsIn (o : DopOutline) (file : List ℕ) : Type 0 where
  pub sound : List ℕ
  pub file_is : file ≡ file_in o sound
  pub samples : AreSamples o sound

-- a file was read to its end, and is an outline with some samples
pub record ReadsOutline {R : Type 0} (left : R → Option (List ℕ)) (old new : Inlet R) (o : DopOutline) : Type 0 where
  pub read : List ℕ
  pub pulled : PullsBytes left old new read
  pub at_end : IsAtEnd (left (inlet_reader new))
  pub is_in : IsIn o read

-- what follows the bytes before the samples was read to the end
pub record ReadsRest {R : Type 0} (left : R → Option (List ℕ)) (old new : Inlet R) (o : DopOutline) : Type 0 where
  pub sound : List ℕ
  pub pulled : PullsBytes left old new (sound ++ o.back.items)
  pub at_end : IsAtEnd (left (inlet_reader new))
  pub samples : AreSamples o sound

-- the recording whose head is this, of these samples; each channel has `count` bits
abbrev pub recording_by : DopHead → ℕ → List ℕ → Content
recording_by h count sound = with_channels (described_by h count) (dop_channels h.channels sound count)

-- the recording of an outline with these samples
abbrev pub recording_in : DopOutline → List ℕ → Content
recording_in o sound = recording_by o.head o.count sound

-- the same with empty channels
abbrev pub silent_in : DopOutline → Content
silent_in o = with_channels (described_by o.head o.count) (replicate (length (described_by o.head o.count).ids) [])
