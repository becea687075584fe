-- The fields of a DSF 1.01 file at their offsets. Numbers have the lowest byte first, and the size of a chunk counts
-- the 12 bytes of its header.
use Rattle.std.specs.Prelude.{ℕ, ◌+◌, ◌-◌, List, [], ◌∷◌, ◌++◌, codes, map, drop, nat_eq, if◌then◌else◌}
use Rattle.std.specs.List.{range_with_len}
use Rattle.chunk_core.specs.declared.numbers.Order.TheVariants.{Little}
use Rattle.chunk_core.specs.Numbers.{number_at}
use Rattle.dsd_bits.specs.Blocks.{blocks_size}
use Rattle.dsd_bits.specs.Layouts.{layout_channels, usual_layout}

-- the number of four bytes at an offset
abbrev pub u32_at : List ℕ → ℕ → ℕ
u32_at file at = number_at Little 4 file at

-- the number of eight bytes at an offset
abbrev pub u64_at : List ℕ → ℕ → ℕ
u64_at file at = number_at Little 8 file at

-- ---- the first chunk

-- its size
abbrev pub first_size : List ℕ → ℕ
first_size file = u64_at file 4

-- the place of the tag, or 0 for none
abbrev pub pointer : List ℕ → ℕ
pointer file = u64_at file 20

-- ---- the format chunk

-- its ID
abbrev pub FMT : List ℕ
FMT = codes "fmt "

-- its size
abbrev pub stated_format_size : List ℕ → ℕ
stated_format_size file = u64_at file 32

-- the version of the format, which is 1
abbrev pub version : List ℕ → ℕ
version file = u32_at file 40

-- the kind of sound, 0 for raw DSD
abbrev pub format : List ℕ → ℕ
format file = u32_at file 44

-- the layout of the channels
abbrev pub channel_type : List ℕ → ℕ
channel_type file = u32_at file 48

-- the number of channels
abbrev pub channel_number : List ℕ → ℕ
channel_number file = u32_at file 52

-- the bits per second of each channel, in hertz
abbrev pub rate : List ℕ → ℕ
rate file = u32_at file 56

-- 1 or 8, which is the order of the bits in a byte
abbrev pub bits_per_sample : List ℕ → ℕ
bits_per_sample file = u32_at file 60

-- the number of bits of each channel
abbrev pub count : List ℕ → ℕ
count file = u64_at file 64

-- the number of bytes of a block
abbrev pub block_size : List ℕ → ℕ
block_size file = u32_at file 72

-- ---- the data chunk

-- its ID
abbrev pub DATA : List ℕ
DATA = codes "data"

-- its place: after the format chunk
abbrev pub data_place : List ℕ → ℕ
data_place file = 28 + stated_format_size file

-- its size
abbrev pub stated_data_size : List ℕ → ℕ
stated_data_size file = u64_at file (data_place file + 4)

-- the number of sound bytes that it holds
abbrev pub held : List ℕ → ℕ
held file = stated_data_size file - 12

-- the place of the first sound byte
abbrev pub sound_place : List ℕ → ℕ
sound_place file = data_place file + 12

-- the number of sound bytes that the channels need
abbrev pub needed : List ℕ → ℕ
needed file = blocks_size (channel_number file) (count file)

-- the place after these bytes
abbrev pub sound_end : List ℕ → ℕ
sound_end file = sound_place file + needed file

-- ---- what the fields say

-- the layout: the channel type if it fits the channel number, else the usual layout (this project's profile)
abbrev pub stated_layout : ℕ → ℕ → ℕ
stated_layout kind number = if nat_eq (layout_channels kind) number then kind else usual_layout number

-- the IDs of n channels
abbrev pub dsf_ids : ℕ → List (List ℕ)
dsf_ids number =
    if nat_eq number 2 then codes "SLFT" ∷ codes "SRGT" ∷ []
    else map (λ c. codes "C00" ++ (48 + c) ∷ []) (range_with_len 0 number)

-- the bytes from a place on; none for 0
abbrev pub tag_from : ℕ → List ℕ → List ℕ
tag_from place file = if nat_eq place 0 then [] else drop place file

-- the tag: the bytes from the pointer on
abbrev pub stated_tag : List ℕ → List ℕ
stated_tag file = tag_from (pointer file) file
