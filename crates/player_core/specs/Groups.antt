-- Sound bytes in groups: for each channel in turn its neighbouring bytes in the form (DSDIFF 1.5, DSD sound data chunk;
-- DSF 1.01, data chunk).
use Rattle.std.specs.Prelude.{◌≡◌, ℕ, ◌+◌, ◌*◌, ◌/◌, ◌%◌, ◌<◌, min, List, map, slice_index}
use Rattle.std.specs.List.{range_with_len}
use Rattle.std.specs.Int.{div_ceil}
use Rattle.dsd_bits.specs.declared.blocks.BitOrder.{BitOrder}
use Rattle.dsd_bits.specs.declared.interleaving.Interleaving.{Interleaving}
use Rattle.dsd_bits.specs.declared.interleaving.Interleaving.TheVariants.{Bytes, Blocks}
use Rattle.dsd_bits.specs.Blocks.{ordered}

-- the number of neighbouring bytes of a channel: one, or a block
abbrev pub part_size : Interleaving → ℕ
part_size Bytes = 1
part_size (Blocks order) = 4096

-- the number of bytes of a group
abbrev pub group_size : Interleaving → ℕ → ℕ
group_size interleaving channels = channels * part_size interleaving

-- a sound byte with its earliest bit the most significant
abbrev pub in_order : Interleaving → ℕ → ℕ
in_order Bytes b = b
in_order (Blocks order) b = ordered order b

-- the place of byte p of channel c
abbrev pub place_in : Interleaving → ℕ → ℕ → ℕ → ℕ
place_in interleaving channels c p = (p / part_size interleaving * channels + c) * part_size interleaving + p % part_size interleaving

-- byte p of channel c, its earliest bit the most significant
abbrev pub channel_byte : Interleaving → ℕ → List ℕ → ℕ → ℕ → ℕ
channel_byte interleaving channels bytes c p = in_order interleaving (slice_index bytes (place_in interleaving channels c p))

-- the number of bytes of each channel for which the whole groups of `size` sound bytes have room
abbrev pub whole_size : Interleaving → ℕ → ℕ → ℕ
whole_size interleaving channels size = size / group_size interleaving channels * part_size interleaving

-- the number of bytes of each channel, which has `count` bits, in the whole groups of `size` sound bytes
abbrev pub channel_size : Interleaving → ℕ → ℕ → ℕ → ℕ
channel_size interleaving channels count size = min (div_ceil count 8) (whole_size interleaving channels size)

-- the bytes of channel c from one on
abbrev pub channel_part : Interleaving → ℕ → List ℕ → ℕ → ℕ → ℕ → List ℕ
channel_part interleaving channels bytes c from number = map (channel_byte interleaving channels bytes c) (range_with_len from number)

-- the first bytes of channel c in groups of blocks
abbrev pub block_bytes : BitOrder → ℕ → List ℕ → ℕ → ℕ → List ℕ
block_bytes order channels bytes c number = channel_part (Blocks order) channels bytes c 0 number

-- these are the bytes of channel c in the first frames of `channels` bytes each
abbrev pub PicksChannel : ℕ → ℕ → List ℕ → ℕ → List ℕ → Type 0
PicksChannel channels c bytes number picked = (frame : ℕ) → frame < number → slice_index picked frame ≡ slice_index bytes (frame * channels + c)
