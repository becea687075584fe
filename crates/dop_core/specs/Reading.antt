-- Reading a WAVE file of DoP samples in a fixed order, to a recording or the first fault (DoP open standard 1.1).
use Rattle.std.specs.Prelude.{ℕ, zero, suc, ◌+◌, ◌-◌, ◌*◌, ◌/◌, ◌%◌, ◌&&◌, ◌||◌, not, Bool, List, [], length, map, drop, Option, None, Some, Result, Ok, Err, nat_eq, nat_lt, if◌then◌else◌, slice_index}
use Rattle.std.specs.Int.{div_ceil}
use Rattle.std.specs.List.{range_with_len}
use Rattle.chunk_core.specs.Steps.{◌>>=◌}
use Rattle.dsd_bits.specs.Contents.{Content, Described, with_channels}
use Rattle.dsd_bits.specs.Layouts.{usual_layout}
use Rattle.dsd_bits.specs.Limits.{most_channels}
use Rattle.dsd_bits.specs.Packing.{unpacked}
use Rattle.dsf_core.specs.Fields.{dsf_ids}
use Rattle.native_core.specs.Native.{marker}
use Rattle.dop_core.specs.declared.fault.DopFault.{DopFault}
use Rattle.dop_core.specs.declared.fault.DopFault.TheVariants.{NotWave, NoData, NoFormat, NotPcm24, BadChannelNumber, BadRate, NoSize, DataCut, PartFrame, BadMarker, CountCut, BadCount}
use Rattle.dop_core.specs.declared.head.DopHead.{DopHead}
use Rattle.dop_core.specs.Fields.{COUNT, DATA, FMT, channel_number, chunk_from, frame_rate, is_pcm_24, is_wave, next_of, size_at, u64_at}

-- the place that was found, or a fault
abbrev pub found_or : DopFault → Option ℕ → Result ℕ DopFault
found_or fault (Some at) = Ok at
found_or fault None = Err fault

-- the place of the data chunk
unfoldable pub data_of : List ℕ → Result ℕ DopFault
data_of file = if not (is_wave file) then Err NotWave else found_or NoData (chunk_from DATA file 12)

-- the format chunk at a place ends before the data chunk begins, and has all fields of its first form
abbrev pub is_before : List ℕ → ℕ → ℕ → Bool
is_before file d f = not (nat_lt d (next_of file f)) && not (nat_lt (size_at file f) 16)

-- the place of the format chunk of a file with this data chunk
unfoldable pub format_of : List ℕ → ℕ → Result ℕ DopFault
format_of file d = do
  f ← found_or NoFormat (chunk_from FMT file 12)
  if is_before file d f then Ok f else Err NoFormat

-- the format chunk is within the limits: samples of 24 bits, 1 to 6 channels, and a sixteenth of a recording's rate
unfoldable pub checked : List ℕ → ℕ → Result ℕ DopFault
checked file f =
    if not (is_pcm_24 file f) then Err NotPcm24
    else if nat_lt (channel_number file f) 1 then Err (BadChannelNumber (channel_number file f))
    else if nat_lt most_channels (channel_number file f) then Err (BadChannelNumber (channel_number file f))
    else if nat_lt (frame_rate file f) 62500 then Err (BadRate (frame_rate file f))
    else if nat_lt 3125000 (frame_rate file f) then Err (BadRate (frame_rate file f))
    else Ok f

-- the data chunk at a place has the size of a stream, which was not known when it was written
abbrev pub has_no_size : List ℕ → ℕ → Bool
has_no_size file d = nat_eq (size_at file d) 4294967295 || (nat_eq (size_at file d) 0 && nat_lt (d + 8) (length file))

-- what a file with these chunks says
abbrev pub head_at : List ℕ → ℕ → ℕ → DopHead
head_at file d f = record {
  rate = 16 * frame_rate file f;
  channels = channel_number file f;
  start = d + 8;
  frames = size_at file d / (3 * channel_number file f);
}

-- what a file says if its data chunk is whole frames that are all there
unfoldable pub sized : List ℕ → ℕ → ℕ → Result DopHead DopFault
sized file d f =
    if has_no_size file d then Err (NoSize (size_at file d))
    else if nat_lt (length file - (d + 8)) (size_at file d) then Err (DataCut (size_at file d) (length file - (d + 8)))
    else if not (nat_eq (size_at file d % (3 * channel_number file f)) 0) then Err PartFrame
    else Ok (head_at file d f)

-- what the header of a file says
unfoldable pub head_of : List ℕ → Result DopHead DopFault
head_of file = do
  d ← data_of file
  f ← format_of file d
  g ← checked file f
  sized file d g

-- ---- the markers

-- which marker comes first: 1 if it is 0xFA
abbrev pub phase : List ℕ → ℕ
phase sound = if nat_eq (slice_index sound 2) 250 then 1 else 0

-- the frame of the first sample from sample k on, of so many, whose marker isn't the frame's
unfoldable pub broken_from : ℕ → ℕ → List ℕ → ℕ → ℕ → Option ℕ
broken_from channels first sound k zero = None
broken_from channels first sound k (suc left) =
    if nat_eq (slice_index sound (3 * k + 2)) (marker (first + k / channels)) then broken_from channels first sound (k + 1) left
    else Some (k / channels)

-- the first frame whose markers aren't 0x05 and 0xFA in turn
abbrev pub broken : DopHead → List ℕ → Option ℕ
broken h sound = broken_from h.channels (phase sound) sound 0 (h.frames * h.channels)

-- no frame that is broken, or the fault of one
abbrev pub as_fault : Option ℕ → Result (Unit {0}) DopFault
as_fault None = Ok tt
as_fault (Some frame) = Err (BadMarker frame)

-- whether all frames have their markers
abbrev pub marked : DopHead → List ℕ → Result (Unit {0}) DopFault
marked h sound = as_fault (broken h sound)

-- ---- the bits

-- `count` bits fill `frames` frames, the last one perhaps in part
abbrev pub fills : ℕ → ℕ → Bool
fills frames count = not (nat_lt (16 * frames) count) && nat_lt (16 * frames) (count + 16)

-- how many bits a chunk that was found says that each channel has; without one, all of the frames
unfoldable pub count_by : List ℕ → ℕ → Option ℕ → Result ℕ DopFault
count_by file frames None = Ok (16 * frames)
count_by file frames (Some at) =
    if nat_lt (size_at file at) 8 || nat_lt (length file) (at + 16) then Err CountCut
    else if fills frames (u64_at file (at + 8)) then Ok (u64_at file (at + 8)) else Err (BadCount (u64_at file (at + 8)))

-- how many bits each channel has: what the first chunk of its kind after the data says
abbrev pub count_in : List ℕ → DopHead → Result ℕ DopFault
count_in file h = count_by file h.frames (chunk_from COUNT file (next_of file (h.start - 8)))

-- byte p of channel c, its earliest bit the most significant: two bytes of a sample, the later one first
abbrev pub dop_byte : ℕ → List ℕ → ℕ → ℕ → ℕ
dop_byte channels sound c p = slice_index sound (3 * (p / 2 * channels + c) + (1 - p % 2))

-- the first bytes of channel c
abbrev pub dop_bytes : ℕ → List ℕ → ℕ → ℕ → List ℕ
dop_bytes channels sound c size = map (dop_byte channels sound c) (range_with_len 0 size)

-- the first bits of channel c
abbrev pub dop_channel : ℕ → List ℕ → ℕ → ℕ → List Bool
dop_channel channels sound count c = unpacked (dop_bytes channels sound c (div_ceil count 8)) count

-- the first bits of every channel
abbrev pub dop_channels : ℕ → List ℕ → ℕ → List (List Bool)
dop_channels channels sound count = map (dop_channel channels sound count) (range_with_len 0 channels)

-- what a WAVE file says of a recording of `count` bits a channel; it doesn't name the loudspeakers
abbrev pub described_by : DopHead → ℕ → Described
described_by h count = record {
  rate = h.rate;
  count = count;
  ids = dsf_ids h.channels;
  layout = usual_layout h.channels;
  marks = [];
  others = [];
  tag = [];
}

-- the bytes from the first sample on
abbrev pub sound_of : List ℕ → DopHead → List ℕ
sound_of file h = drop h.start file

-- the recording whose bits a file has, or the first fault
unfoldable pub recording_of : List ℕ → Result Content DopFault
recording_of file = do
  h ← head_of file
  m ← marked h (sound_of file h)
  count ← count_in file h
  Ok (with_channels (described_by h count) (dop_channels h.channels (sound_of file h) count))
