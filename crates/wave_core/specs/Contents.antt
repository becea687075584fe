-- What a WAVE file of PCM samples holds, as lists and numbers (RIFF WAVE; the limits are this project's).
use Rattle.std.specs.Prelude.{◌≡◌, ℕ, ◌-◌, ◌%◌, ◌^◌, ◌<◌, ◌≤◌, ◌⊎◌, ℤ, pos, negsuc, List, length, All}
use Rattle.dsd_bits.specs.Limits.{most_channels}

-- samples of a width in bits at a rate in frames per second: the channels of a frame in order, frame by frame
pub record Pcm : Type 0 where
  pub channels : ℕ
  pub rate : ℕ
  pub width : ℕ
  pub samples : List ℤ

-- the samples with these numbers
abbrev pub pcm_of : ℕ → ℕ → ℕ → List ℤ → Pcm
pcm_of channels rate width samples = record { channels = channels; rate = rate; width = width; samples = samples }

-- the value can be written in two's complement of `width` bits: -2^(width-1) up to 2^(width-1) - 1 (negsuc n is -1 - n)
abbrev pub IsSample : ℕ → ℤ → Type 0
IsSample width (pos n) = n < 2 ^ (width - 1)
IsSample width (negsuc n) = n < 2 ^ (width - 1)

-- a width that samples may have: 16 or 24
abbrev pub IsWidth : ℕ → Type 0
IsWidth width = (width ≡ 16) ⊎ (width ≡ 24)

-- what a file says about its samples: the channels of a frame, the frames per second, the bits of a sample
pub record WaveSpec : Type 0 where
  pub channels : ℕ
  pub rate : ℕ
  pub width : ℕ

-- the description with these numbers
abbrev pub spec_of : ℕ → ℕ → ℕ → WaveSpec
spec_of channels rate width = record { channels = channels; rate = rate; width = width }

-- the rules that it obeys
pub record IsWaveSpec (s : WaveSpec) : Type 0 where
  pub some_channel : 1 ≤ s.channels
  pub six_channels : s.channels ≤ most_channels
  pub lowest_rate : 1 ≤ s.rate
  pub highest_rate : s.rate ≤ 6250000
  pub known_width : IsWidth s.width

-- the rules that all samples in memory obey
pub record IsPcm (p : Pcm) : Type 0 where
  pub spec : IsWaveSpec (spec_of p.channels p.rate p.width)
  pub whole_frames : length p.samples % p.channels ≡ 0
  pub in_range : All (IsSample p.width) p.samples
