-- The sound of a file: what it is, and where its bytes are (DSDIFF 1.5 and DSF 1.01, sound data).
use Rattle.std.specs.Prelude.{◌≡◌, ◌≤◌, ℕ, ◌+◌, ◌*◌, ◌/◌, Bool, true, false, List, length, take, drop}
use Rattle.dsd_bits.specs.declared.interleaving.Interleaving.{Interleaving}
use Rattle.dsd_bits.specs.declared.interleaving.Interleaving.TheVariants.{Bytes, Blocks}
use Rattle.dsd_bits.specs.declared.sound.Sound.{Sound}
use Rattle.dsd_bits.specs.declared.sound.SoundAt.{SoundAt}
use Rattle.dsd_bits.specs.declared.sound.SoundAt.TheVariants.{More, Refused, Found}
use Rattle.dsd_bits.specs.Blocks.{blocks_size, unblocked_all}
use Rattle.dsd_bits.specs.Channels.{count_of}
use Rattle.dsd_bits.specs.Contents.{Content}
use Rattle.dsd_bits.specs.Lacing.{unlaced_all}
use Rattle.dsd_bits.specs.Limits.{most_bits, most_channels, least_rate, greatest_rate}

-- the channels are in blocks
abbrev pub has_blocks : Interleaving → Bool
has_blocks Bytes = false
has_blocks (Blocks order) = true

-- the number of sound bytes of channels of n bits: a byte of each channel in turn, or blocks
abbrev pub sound_size : Interleaving → ℕ → ℕ → ℕ
sound_size Bytes channels count = count / 8 * channels
sound_size (Blocks order) channels count = blocks_size channels count

-- the channels in sound bytes, interleaved by bytes or by blocks
abbrev pub sound_channels : Interleaving → ℕ → ℕ → List ℕ → List (List Bool)
sound_channels Bytes channels count bytes = unlaced_all bytes channels
sound_channels (Blocks order) channels count bytes = unblocked_all order bytes channels count

-- the sound lies within the limits of a recording, and its size is what its channels need
pub record IsSound (s : Sound) : Type 0 where
  pub rate_low : least_rate ≤ s.rate
  pub rate_high : s.rate ≤ greatest_rate
  pub some_channel : 1 ≤ s.channels
  pub six_channels : s.channels ≤ most_channels
  pub in_limit : s.count ≤ most_bits
  pub size : s.size ≡ sound_size s.interleaving s.channels s.count

-- the bytes of the sound in a file
abbrev pub sound_bytes : List ℕ → Sound → List ℕ
sound_bytes file s = take s.size (drop s.start file)

-- the sound of the file that holds this recording: it has the recording's rate, channel number and count, and its bytes
-- hold the channels
pub record HasSound (file : List ℕ) (r : Content) (s : Sound) : Type 0 where
  pub rate : r.rate ≡ s.rate
  pub number : length r.channels ≡ s.channels
  pub count : count_of r.channels ≡ s.count
  pub in_file : s.start + s.size ≤ length file
  pub channels : r.channels ≡ sound_channels s.interleaving s.channels s.count (sound_bytes file s)

-- P holds of the sound that was found
abbrev pub IfFound : SoundAt → (Sound → Type 0) → Type 0
IfFound More P = Unit {0}
IfFound Refused P = Unit {0}
IfFound (Found s) P = P s

-- P holds if more bytes are needed
abbrev pub IfMore : SoundAt → Type 0 → Type 0
IfMore More P = P
IfMore Refused P = Unit {0}
IfMore (Found s) P = Unit {0}

-- P holds if every file that begins like this is refused
abbrev pub IfRefused : SoundAt → Type 0 → Type 0
IfRefused More P = Unit {0}
IfRefused Refused P = P
IfRefused (Found s) P = Unit {0}
