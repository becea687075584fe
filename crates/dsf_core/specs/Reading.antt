-- Reading a file in a fixed order, to a recording or the first fault.
use Rattle.std.specs.Prelude.{ℕ, ◌+◌, ◌-◌, ◌%◌, ◌&&◌, not, Bool, true, false, List, [], length, drop, Some, None, Result, Ok, Err, nat_eq, nat_lt, if◌then◌else◌}
use Rattle.std.specs.Int.{div_ceil}
use Rattle.chunk_core.specs.Numbers.{id_at}
use Rattle.chunk_core.specs.Steps.{◌>>=◌}
use Rattle.dsd_bits.specs.declared.blocks.BitOrder.{BitOrder}
use Rattle.dsd_bits.specs.declared.blocks.BitOrder.TheVariants.{LeastFirst, MostFirst}
use Rattle.dsd_bits.specs.Blocks.{unblocked_all}
use Rattle.dsd_bits.specs.declared.interleaving.Interleaving.TheVariants.{Blocks}
use Rattle.dsd_bits.specs.declared.sound.Sound.{Sound}
use Rattle.dsd_bits.specs.Contents.{Content, Described, with_channels}
use Rattle.dsd_bits.specs.Ids.{same_id, DSD}
use Rattle.dsd_bits.specs.Limits.{most_bits, most_channels, least_rate, greatest_rate, block_bits, block_bytes}
use Rattle.dsf_core.specs.declared.fault.DsfFault.{DsfFault}
use Rattle.dsf_core.specs.declared.fault.DsfFault.TheVariants.{NotDsf, HeadCut, BadFormat, BadVersion, BadChannelNumber, BadRate, BadBits, BadBlock, TooLong, DataCut, BadPointer}
use Rattle.dsf_core.specs.declared.fault.Misformat.TheVariants.{First, Format, Data, Kind}
use Rattle.dsf_core.specs.declared.header.Header.{Header}
use Rattle.dsf_core.specs.Fields.{FMT, DATA, first_size, pointer, stated_format_size, version, format, channel_type, channel_number, rate, bits_per_sample, count, block_size, data_place, stated_data_size, held, sound_place, needed, stated_layout, dsf_ids, tag_from}

-- the place of the data chunk, after the other two
unfoldable pub chunks_of : List ℕ → Result ℕ DsfFault
chunks_of file =
    if nat_lt (length file) 4 then Err NotDsf
    else if not (same_id (id_at file 0) DSD) then Err NotDsf
    else if nat_lt (length file) 80 then Err (HeadCut (length file))
    else if not (nat_eq (first_size file) 28) then Err (BadFormat (First (first_size file)))
    else if not (same_id (id_at file 28) FMT) then Err (BadFormat (Format (id_at file 28) (stated_format_size file)))
    else if nat_lt (stated_format_size file) 52 then Err (BadFormat (Format (id_at file 28) (stated_format_size file)))
    else if nat_lt (length file) (data_place file + 12) then Err (HeadCut (length file))
    else if not (same_id (id_at file (data_place file)) DATA) then Err (BadFormat (Data (id_at file (data_place file)) (stated_data_size file)))
    else if nat_lt (stated_data_size file) 12 then Err (BadFormat (Data (id_at file (data_place file)) (stated_data_size file)))
    else if not (nat_eq (format file) 0) then Err (BadFormat (Kind (format file)))
    else Ok (data_place file)

-- the order of the bits, if these numbers of the format chunk are within their limits
unfoldable pub stated_order : ℕ → ℕ → ℕ → ℕ → ℕ → ℕ → Result BitOrder DsfFault
stated_order version number rate bits block count =
    if not (nat_eq version 1) then Err (BadVersion version)
    else if nat_lt number 1 then Err (BadChannelNumber number)
    else if nat_lt most_channels number then Err (BadChannelNumber number)
    else if nat_lt rate least_rate then Err (BadRate rate)
    else if nat_lt greatest_rate rate then Err (BadRate rate)
    else if not (nat_eq bits 1) && not (nat_eq bits 8) then Err (BadBits bits)
    else if not (nat_eq block block_bytes) then Err (BadBlock block)
    else if nat_lt most_bits count then Err (TooLong count)
    else Ok (if nat_eq bits 1 then LeastFirst else MostFirst)

-- the order of the bits, if the fields are within their limits
abbrev pub order_of : List ℕ → Result BitOrder DsfFault
order_of file = stated_order (version file) (channel_number file) (rate file) (bits_per_sample file) (block_size file) (count file)

-- the sound that the fields describe: the needed sound bytes, with their bits in this order
abbrev pub stated_sound : List ℕ → BitOrder → Sound
stated_sound file order = record {
  rate = rate file;
  channels = channel_number file;
  count = count file;
  start = sound_place file;
  size = needed file;
  interleaving = Blocks order;
}

-- what the fields of a file say, with its bits in this order
abbrev pub stated_header : List ℕ → BitOrder → Header
stated_header file order = record { sound = stated_sound file order; order = order; kind = channel_type file; tag_at = pointer file }

-- how many bytes at the end of a channel's last block hold none of its bits
abbrev pub fill_of : ℕ → ℕ
fill_of count = (block_bytes - div_ceil (count % block_bits) 8) % block_bytes

-- the fault of a sound that lacks bytes: its chunk's size says so (`stated`), or the file ends too early
abbrev pub cut_at : Sound → ℕ → Bool → DsfFault
cut_at s there stated = DataCut (record { needed = s.size; there = there; stated = stated; fill = fill_of s.count })

-- what the header of a file says, if it leads to a sound and the data chunk holds the needed bytes
unfoldable pub file_header : List ℕ → Result Header DsfFault
file_header file = do
  data_at ← chunks_of file
  order ← order_of file
  if nat_lt (held file) (needed file) then Err (cut_at (stated_sound file order) (held file) true) else Ok (stated_header file order)

-- the place after the sound
abbrev pub end_of : Header → ℕ
end_of prefix = prefix.sound.start + prefix.sound.size

-- the fault of a file of n bytes that ends inside this sound
abbrev pub cut_fault : Sound → ℕ → DsfFault
cut_fault s total = cut_at s (total - s.start) false

-- the fault of a file of n bytes whose tag would begin at this place, before the end of the sound or after that of the
-- file
abbrev pub pointer_fault : ℕ → ℕ → ℕ → DsfFault
pointer_fault tag end total = BadPointer tag end (if nat_lt tag end then None else Some total)

-- whether a file of n bytes holds the whole sound, and the tag after it
unfoldable pub ends_fit : Header → ℕ → Result (Unit {0}) DsfFault
ends_fit prefix total =
    if nat_lt total (end_of prefix) then Err (cut_fault prefix.sound total)
    else if nat_eq prefix.tag_at 0 then Ok tt
    else if nat_lt prefix.tag_at (end_of prefix) then Err (pointer_fault prefix.tag_at (end_of prefix) total)
    else if nat_lt total prefix.tag_at then Err (pointer_fault prefix.tag_at (end_of prefix) total)
    else Ok tt

-- the description of a file with this header and this tag
abbrev pub described_by : Header → List ℕ → Described
described_by prefix tag = record {
  rate = prefix.sound.rate;
  count = prefix.sound.count;
  ids = dsf_ids prefix.sound.channels;
  layout = stated_layout prefix.kind prefix.sound.channels;
  marks = [];
  others = [];
  tag = tag;
}

-- the channels in the bytes from the sound on
abbrev pub channels_by : Header → List ℕ → List (List Bool)
channels_by prefix bytes = unblocked_all prefix.order bytes prefix.sound.channels prefix.sound.count

-- the recording in a file and the order of its bits, or the first fault
unfoldable pub recording_of : List ℕ → Result (Content × BitOrder) DsfFault
recording_of file = do
  prefix ← file_header file
  ends ← ends_fit prefix (length file)
  Ok (with_channels (described_by prefix (tag_from prefix.tag_at file)) (channels_by prefix (drop prefix.sound.start file)), prefix.order)
