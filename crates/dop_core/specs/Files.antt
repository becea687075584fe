-- When a WAVE file of DoP samples has the bits of a recording, field by field (DoP open standard 1.1).
use Rattle.std.specs.Prelude.{◌≡◌, ◌≢◌, ◌≤◌, ◌<◌, ℕ, ◌+◌, ◌*◌, ◌/◌, ◌%◌, true, List, [], length, drop, None, Some, slice_index}
use Rattle.chunk_core.specs.Numbers.{id_at}
use Rattle.dsd_bits.specs.Contents.{Content}
use Rattle.dsd_bits.specs.Layouts.{usual_layout}
use Rattle.dsd_bits.specs.Limits.{most_channels}
use Rattle.dsf_core.specs.Fields.{dsf_ids}
use Rattle.native_core.specs.Native.{marker}
use Rattle.dop_core.specs.Fields.{COUNT, DATA, FMT, RIFF, WAVE, channel_number, chunk_from, frame_rate, is_pcm_24, next_of, size_at, u64_at}
use Rattle.dop_core.specs.Reading.{dop_channels}

-- how many frames a data chunk of `size` bytes has
abbrev pub frames_in : ℕ → ℕ → ℕ
frames_in channels size = size / (3 * channels)

-- every sample of the frames has its frame's marker, 0x05 and 0xFA in turn, and the first frame has either
pub record HasMarkers (channels frames : ℕ) (sound : List ℕ) : Type 0 where
  pub first : ℕ
  pub either : first ≤ 1
  pub marks : (j c : ℕ) → j < frames → c < channels → slice_index sound (3 * (j * channels + c) + 2) ≡ marker (first + j)

-- how many bits each channel has: as many as the first chunk after the data says that is made for it, and they end in
-- the last frame; all bits of the frames if there is no such chunk
pub record HasCount (file : List ℕ) (place frames count : ℕ) : Type 0 where
  pub all : chunk_from COUNT file (next_of file place) ≡ None → count ≡ 16 * frames
  pub long : (at : ℕ) → chunk_from COUNT file (next_of file place) ≡ Some at → (8 ≤ size_at file at) × (at + 16 ≤ length file)
  pub stated : (at : ℕ) → chunk_from COUNT file (next_of file place) ≡ Some at → u64_at file (at + 8) ≡ count
  pub most : count ≤ 16 * frames
  pub least : 16 * frames < count + 16

-- the file has the bits of this recording: the whole form as one relation, field by field
pub record IsDopOf (file : List ℕ) (r : Content) : Type 0 where
  -- a WAVE file
  pub long : 12 ≤ length file
  pub riff : id_at file 0 ≡ RIFF
  pub wave : id_at file 8 ≡ WAVE
  -- its first data chunk, and its first format chunk, which ends before that
  pub place : ℕ
  pub place_is : chunk_from DATA file 12 ≡ Some place
  pub format : ℕ
  pub format_is : chunk_from FMT file 12 ≡ Some format
  pub before : next_of file format ≤ place
  pub format_long : 16 ≤ size_at file format
  -- samples of 24 bits, within the limits
  pub samples : is_pcm_24 file format ≡ true
  pub some_channel : 1 ≤ channel_number file format
  pub six_channels : channel_number file format ≤ most_channels
  pub rate_low : 62500 ≤ frame_rate file format
  pub rate_high : frame_rate file format ≤ 3125000
  -- the data chunk has whole frames that are all there, and not the size of a stream
  pub not_stream : size_at file place ≢ 4294967295
  pub not_open : size_at file place ≡ 0 → length file ≤ place + 8
  pub there : place + 8 + size_at file place ≤ length file
  pub whole : size_at file place % (3 * channel_number file format) ≡ 0
  pub markers : HasMarkers (channel_number file format) (frames_in (channel_number file format) (size_at file place)) (drop (place + 8) file)
  -- what is read
  pub count : ℕ
  pub count_is : HasCount file place (frames_in (channel_number file format) (size_at file place)) count
  pub rate_read : r.rate ≡ 16 * frame_rate file format
  pub channels_read : r.channels ≡ dop_channels (channel_number file format) (drop (place + 8) file) count
  pub ids_read : r.ids ≡ dsf_ids (channel_number file format)
  pub layout_read : r.layout ≡ usual_layout (channel_number file format)
  -- what such a file does not store
  pub no_marks : r.marks ≡ []
  pub no_others : r.others ≡ []
  pub no_tag : r.tag ≡ []
