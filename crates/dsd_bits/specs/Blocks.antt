-- Sound bytes of several channels in blocks: for every 32768 bits a block of 4096 bytes of each channel in turn (DSF
-- 1.01, data chunk; the two orders of the bits are this project's profile).
use Rattle.std.specs.Prelude.{◌≡◌, ℕ, ◌+◌, ◌-◌, ◌*◌, ◌/◌, ◌%◌, ◌<◌, ◌≤◌, Bool, false, ◌==◌, List, [], ◌++◌, map, length, slice_index, slice_index_or}
use Rattle.std.specs.List.{range_with_len}
use Rattle.std.specs.Int.{bit_at, div_ceil}
use Rattle.dsd_bits.specs.declared.blocks.BitOrder.{BitOrder}
use Rattle.dsd_bits.specs.declared.blocks.BitOrder.TheVariants.{LeastFirst, MostFirst}
use Rattle.dsd_bits.specs.Channels.{IsLevel, count_of}
use Rattle.dsd_bits.specs.Limits.{block_bits, block_bytes}
use Rattle.dsd_bits.specs.Packing.{packed_byte}
use Rattle.dsd_bits.specs.Reversing.{reversed}

-- the sound byte that holds bit i of channel c: (i / 32768 * channels + c) * 4096 + i % 32768 / 8
abbrev pub block_place : ℕ → ℕ → ℕ → ℕ
block_place channels c i = (i / block_bits * channels + c) * block_bytes + i % block_bits / 8

-- which bit of that byte it is, where bit 0 is the least significant: i % 8 or 7 - i % 8
abbrev pub bit_number : BitOrder → ℕ → ℕ
bit_number LeastFirst i = i % 8
bit_number MostFirst i = 7 - i % 8

-- bit i of channel c among sound bytes
abbrev pub block_bit : BitOrder → List ℕ → ℕ → ℕ → ℕ → Bool
block_bit order bytes channels c i = bit_at (slice_index bytes (block_place channels c i)) (bit_number order i) == 1

-- the number of sound bytes for channels of n bits: whole groups of blocks
abbrev pub blocks_size : ℕ → ℕ → ℕ
blocks_size channels count = div_ceil count block_bits * channels * block_bytes

-- the first bits of channel c of the sound bytes
abbrev pub unblocked : BitOrder → List ℕ → ℕ → ℕ → ℕ → List Bool
unblocked order bytes channels count c = map (block_bit order bytes channels c) (range_with_len 0 count)

-- the first bits of every channel of the sound bytes, in order
abbrev pub unblocked_all : BitOrder → List ℕ → ℕ → ℕ → List (List Bool)
unblocked_all order bytes channels count = map (unblocked order bytes channels count) (range_with_len 0 channels)

-- a byte of this order with its most significant bit first
abbrev pub ordered : BitOrder → ℕ → ℕ
ordered LeastFirst b = reversed b
ordered MostFirst b = b

-- the sound byte at a place; past a channel's end it is zero
abbrev pub block_byte : BitOrder → List (List Bool) → ℕ → ℕ
block_byte order channels place =
    let block = place / block_bytes in
    ordered order (packed_byte (slice_index_or channels (block % length channels) []) (block / length channels * block_bytes + place % block_bytes))

-- the sound bytes of the channels
abbrev pub blocked : BitOrder → List (List Bool) → List ℕ
blocked order channels = map (block_byte order channels) (range_with_len 0 (blocks_size (length channels) (count_of channels)))

-- each bit of each channel is at its place, and the bits after the channels' end are zeros
pub record AreBlocks (order : BitOrder) (channels : List (List Bool)) (bytes : List ℕ) : Type 0 where
  pub size : length bytes ≡ blocks_size (length channels) (count_of channels)
  pub at : (c i : ℕ) → c < length channels → i < block_bits * div_ceil (count_of channels) block_bits → block_bit order bytes (length channels) c i ≡ slice_index_or (slice_index_or channels c []) i false

-- law: channels that are interleaved in blocks are read again, whatever follows the blocks
abbrev pub BlocksReadAgain : Type 0
BlocksReadAgain = (order : BitOrder) (channels : List (List Bool)) (more : List ℕ) → IsLevel channels → 1 ≤ length channels → unblocked_all order (blocked order channels ++ more) (length channels) (count_of channels) ≡ channels
