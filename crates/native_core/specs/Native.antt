-- Bits of several channels as a converter takes them: bytes, or samples of 24 bits (DoP open standard 1.1).
use Rattle.std.specs.Prelude.{◌≡◌, ◌≤◌, ℕ, ◌+◌, ◌-◌, ◌*◌, ◌/◌, ◌%◌, Bool, ◌==◌, if◌then◌else◌, List, [], ◌∷◌, ◌++◌, length, map, nat_eq, slice_index}
use Rattle.std.specs.List.{flat_map, range_with_len}
use Rattle.std.specs.Int.{bit_at, div_ceil}
use Rattle.dsd_bits.specs.declared.interleaving.Interleaving.{Interleaving}
use Rattle.dsd_bits.specs.declared.interleaving.Interleaving.TheVariants.{Bytes}
use Rattle.dsd_bits.specs.Blocks.{ordered}
use Rattle.dsd_bits.specs.Lacing.{laced}
use Rattle.dsd_bits.specs.Limits.{block_bits}
use Rattle.dsd_bits.specs.Sounds.{sound_channels, sound_size}
use Rattle.native_core.specs.declared.layout.Layout.{Layout}
use Rattle.native_core.specs.declared.layout.Layout.TheVariants as layouts

-- bit i of silence, which is 0x69 again and again, from the most significant bit on
abbrev pub silence_bit : ℕ → Bool
silence_bit i = bit_at 105 (7 - i % 8) == 1

-- n bits of silence, from one on
abbrev pub silence : ℕ → ℕ → List Bool
silence from n = map silence_bit (range_with_len from n)

-- how many bits are missing up to a whole number of units of `unit` bits
abbrev pub missing : ℕ → ℕ → ℕ
missing unit count = div_ceil count unit * unit - count

-- a channel, with silence after it up to a whole number of units
abbrev pub filled : ℕ → List Bool → List Bool
filled unit bits = bits ++ silence (length bits) (missing unit (length bits))

-- the same of each channel
abbrev pub all_filled : ℕ → List (List Bool) → List (List Bool)
all_filled unit channels = map (filled unit) channels

-- the marker of DoP frame j: 0x05 and 0xFA in turn
abbrev pub marker : ℕ → ℕ
marker j = if nat_eq (j % 2) 0 then 5 else 250

-- DoP sample k of n channels' interleaved bytes, that of channel k % n in frame k / n: the lowest byte first, which is
-- the later byte of the channel, then the earlier one and the marker
abbrev pub dop_sample : ℕ → List ℕ → ℕ → List ℕ
dop_sample n bytes k =
    slice_index bytes (k + k / n * n + n) ∷ slice_index bytes (k + k / n * n) ∷ marker (k / n) ∷ []

-- the DoP samples of n channels' interleaved bytes, each made of two bytes
abbrev pub dop_samples : ℕ → List ℕ → List ℕ
dop_samples n bytes = flat_map (dop_sample n bytes) (range_with_len 0 (length bytes / 2))

-- how many bits of a channel a frame has
abbrev pub unit_of : Layout → ℕ
unit_of (layouts.Bytes order) = 8
unit_of layouts.Dop = 16

-- how many bytes a frame of n channels has
abbrev pub frame_size : Layout → ℕ → ℕ
frame_size (layouts.Bytes order) n = n
frame_size layouts.Dop n = 3 * n

-- how many frames channels of `count` bits have
abbrev pub frame_number : Layout → ℕ → ℕ
frame_number layout count = div_ceil count (unit_of layout)

-- the channels as frames, with silence up to a whole frame: a byte of each channel in turn with its bits in this order,
-- or a DoP sample of each channel in turn
abbrev pub native : Layout → List (List Bool) → List ℕ
native (layouts.Bytes order) channels = map (ordered order) (laced (all_filled 8 channels))
native layouts.Dop channels = dop_samples (length channels) (laced (all_filled 16 channels))

-- the frames of the channels that sound bytes hold
abbrev pub native_of : Layout → Interleaving → ℕ → ℕ → List ℕ → List ℕ
native_of layout from n count bytes = native layout (sound_channels from n count bytes)

-- law: the frames of whole groups of 4096 bytes a channel, and of the bytes after them, are those of all
abbrev pub NativeJoins : Type 0
NativeJoins = (layout : Layout) (from : Interleaving) (n a b : ℕ) (first more : List ℕ) → 1 ≤ n → a % block_bits ≡ 0 → length first ≡ sound_size from n a → length more ≡ sound_size from n b
    → native_of layout from n (a + b) (first ++ more) ≡ native_of layout from n a first ++ native_of layout from n b more

-- law: there are as many bytes as the frames have
abbrev pub NativeHasSize : Type 0
NativeHasSize = (layout : Layout) (from : Interleaving) (n count : ℕ) (bytes : List ℕ) → 1 ≤ n → length bytes ≡ sound_size from n count → (from ≡ Bytes → count % 8 ≡ 0)
    → length (native_of layout from n count bytes) ≡ frame_number layout count * frame_size layout n
