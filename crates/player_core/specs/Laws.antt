-- Laws of a file that a player fills: its header, what the player returns, its pad.
use Rattle.std.specs.Prelude.{◌≡◌, ℕ, ◌/◌, ◌%◌, ◌^◌, ◌≤◌, List, [], ◌++◌, length, Some, None}
use Rattle.std.specs.Int.{div_ceil}
use Rattle.dsd_bits.specs.declared.interleaving.Interleaving.TheVariants.{Bytes}
use Rattle.dsd_bits.specs.declared.sound.Sound.{Sound}
use Rattle.dsd_bits.specs.Contents.{Content}
use Rattle.dsd_bits.specs.Sounds.{HasSound, IsSound, sound_bytes}
use Rattle.fir_core.specs.Decimator.{Decimator}
use Rattle.wave_core.specs.Heads.{file_size_in, header_in, plain}
use Rattle.wave_core.specs.Sizes.{FitsRiff, data_size, riff_size}
use Rattle.wave_core.specs.Texts.{pad_bytes, wave_text}
use Rattle.wave_core.specs.declared.head.WaveHead.{WaveHead}
use Rattle.player_core.specs.Due.{all_bytes, due_bytes}
use Rattle.player_core.specs.Samples.{pcm}

-- the number of frames that are played of a sound
abbrev pub total_frames : Decimator → Sound → ℕ
total_frames d s = div_ceil s.count d.factor

-- the WAVE file of a sound whose frames have these bytes: the header, the bytes, the pad
abbrev pub file_around : WaveHead → Decimator → Sound → List ℕ → List ℕ
file_around head d s bytes =
    header_in head s.channels (s.rate / d.factor) d.width (total_frames d s) ++ (bytes ++ pad_bytes s.channels d.width (total_frames d s))

-- what is played of a recording in a file: the WAVE file around the bytes of all frames of the sound, or nothing if its
-- sizes are too large
pub record IsPlayed (file : List ℕ) (r : Content) (s : Sound) (d : Decimator) : Type 0 where
  pub whole : FitsRiff s.channels d.width (total_frames d s) → wave_text (pcm r d) ≡ Some (file_around plain d s (all_bytes d s (sound_bytes file s)))
  pub too_large : 2 ^ 32 ≤ riff_size s.channels d.width (total_frames d s) → wave_text (pcm r d) ≡ None

-- the sound of a recording in a file is all that is played of it
abbrev pub SoundIsPlayed : Type 0
SoundIsPlayed = (file : List ℕ) (r : Content) (s : Sound) (d : Decimator) → HasSound file r s → IsSound s → IsPlayed file r s d

-- there are as many bytes of all frames as the header says
abbrev pub FramesFill : Type 0
FramesFill = (d : Decimator) (s : Sound) (bytes : List ℕ) → IsSound s → (s.interleaving ≡ Bytes → s.count % 8 ≡ 0)
    → length bytes ≡ s.size → length (all_bytes d s bytes) ≡ data_size s.channels d.width (total_frames d s)

-- a file around n bytes has its size
abbrev pub FileHasSize : Type 0
FileHasSize = (head : WaveHead) (d : Decimator) (s : Sound) (bytes : List ℕ) → length bytes ≡ data_size s.channels d.width (total_frames d s)
    → length (file_around head d s bytes) ≡ file_size_in head s.channels d.width (total_frames d s)

-- before the first sound byte nothing is due
abbrev pub NothingIsDue : Type 0
NothingIsDue = (d : Decimator) (s : Sound) → due_bytes d s [] ≡ []

-- the bytes that are due after a prefix of the sound bytes are a prefix of those of all frames
abbrev pub PrefixComesFirst : Type 0
PrefixComesFirst = (d : Decimator) (s : Sound) (before bytes : List ℕ) → IsSound s → (s.interleaving ≡ Bytes → s.count % 8 ≡ 0) → 8 ≤ d.factor
    → length (before ++ bytes) ≡ s.size → (more : List ℕ) × (all_bytes d s (before ++ bytes) ≡ due_bytes d s before ++ more)
