-- Sound bytes of several channels, interleaved: one byte of each channel in turn (DSDIFF 1.5, DSD sound data chunk).
use Rattle.std.specs.Prelude.{◌≡◌, ℕ, ◌+◌, ◌-◌, ◌*◌, ◌/◌, ◌%◌, ◌<◌, ◌≤◌, Bool, false, ◌==◌, List, [], map, length, slice_index, slice_index_or}
use Rattle.std.specs.List.{range_with_len}
use Rattle.std.specs.Int.{bit_at}
use Rattle.dsd_bits.specs.Channels.{IsLevel, count_of}
use Rattle.dsd_bits.specs.Packing.{packed_byte}

-- bit i of channel c among the sound bytes of N channels: bit 7 - i % 8 of byte i / 8 * channels + c
abbrev pub laced_bit : List ℕ → ℕ → ℕ → ℕ → Bool
laced_bit bytes channels c i = bit_at (slice_index bytes (i / 8 * channels + c)) (7 - i % 8) == 1

-- the bytes of channel c in n frames from one on
abbrev pub picked : List ℕ → ℕ → ℕ → ℕ → ℕ → List ℕ
picked bytes channels c from frames = map (λ frame. slice_index bytes (frame * channels + c)) (range_with_len from frames)

-- channel c of the sound bytes
abbrev pub unlaced : List ℕ → ℕ → ℕ → List Bool
unlaced bytes channels c = map (laced_bit bytes channels c) (range_with_len 0 (8 * (length bytes / channels)))

-- every channel of the sound bytes, in order
abbrev pub unlaced_all : List ℕ → ℕ → List (List Bool)
unlaced_all bytes channels = map (unlaced bytes channels) (range_with_len 0 channels)

-- the sound byte at a place: the channels in turn
abbrev pub laced_byte : List (List Bool) → ℕ → ℕ
laced_byte channels place = packed_byte (slice_index_or channels (place % length channels) []) (place / length channels)

-- the number of bytes of each channel
abbrev pub frame_number : List (List Bool) → ℕ
frame_number channels = count_of channels / 8

-- the sound bytes of the channels in n frames from one on
abbrev pub laced_part : List (List Bool) → ℕ → ℕ → List ℕ
laced_part channels from frames = map (laced_byte channels) (range_with_len (from * length channels) (frames * length channels))

-- the sound bytes of the channels
abbrev pub laced : List (List Bool) → List ℕ
laced channels = map (laced_byte channels) (range_with_len 0 (frame_number channels * length channels))

-- each bit of each channel is at its place, and there is nothing else
pub record AreLaced (channels : List (List Bool)) (bytes : List ℕ) : Type 0 where
  pub size : 8 * length bytes ≡ count_of channels * length channels
  pub at : (c i : ℕ) → c < length channels → i < count_of channels → laced_bit bytes (length channels) c i ≡ slice_index_or (slice_index_or channels c []) i false

-- law: channels of whole bytes that are interleaved are read again
abbrev pub LacedReadAgain : Type 0
LacedReadAgain = (channels : List (List Bool)) → IsLevel channels → count_of channels % 8 ≡ 0 → 1 ≤ length channels → unlaced_all (laced channels) (length channels) ≡ channels
