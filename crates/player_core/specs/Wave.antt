-- The WAVE file of a sound in parts, and how it begins (RIFF WAVE).
use Rattle.std.specs.Prelude.{◌≡◌, ◌≢◌, ℕ, ◌/◌, ◌%◌, ◌≤◌, List, Option, ⊤}
use Rattle.std.specs.Io.KnownBytes.{Appends}
use Rattle.dsd_bits.specs.declared.sound.Sound.{Sound}
use Rattle.fir_core.specs.Decimator.{Decimator}
use Rattle.player_core.specs.Laws.{total_frames}
use Rattle.wave_core.specs.Heads.{FitsIn, file_size_in, header_in, limit_of, size_in}
use Rattle.wave_core.specs.Texts.{pad_bytes}
use Rattle.wave_core.specs.declared.head.WaveHead.{WaveHead}
use Rattle.sound_core.specs.declared.fault.StreamFault.{StreamFault}
use Rattle.sound_core.specs.declared.fault.StreamFault.TheVariants.{RateNotDivided, TooLarge, WriteFailed, Memory}

-- the bytes before the frames
abbrev pub sound_header : WaveHead → Decimator → Sound → List ℕ
sound_header head d s = header_in head s.channels (s.rate / d.factor) d.width (total_frames d s)

-- the bytes after the frames: one zero byte after odd data, else nothing
abbrev pub pad_of : Decimator → Sound → List ℕ
pad_of d s = pad_bytes s.channels d.width (total_frames d s)

-- the number of bytes of the file
abbrev pub wave_file_size : WaveHead → Decimator → Sound → ℕ
wave_file_size head d s = file_size_in head s.channels d.width (total_frames d s)

-- the factor divides the rate, the sizes fit, and the header was written
pub record OpensWave (head : WaveHead) (d : Decimator) (s : Sound) (held_old held_new : Option (List ℕ)) : Type 0 where
  pub divided : s.rate % d.factor ≡ 0
  pub fits : FitsIn head s.channels d.width (total_frames d s)
  pub written : Appends held_old held_new (sound_header head d s)

-- a fault of the header: the factor does not divide the rate, the sizes do not fit, or the header is not written
abbrev pub IsOpeningFault : WaveHead → Decimator → Sound → StreamFault → Type 0
IsOpeningFault head d s RateNotDivided = s.rate % d.factor ≢ 0
IsOpeningFault head d s TooLarge = (s.rate % d.factor ≡ 0) × (limit_of head ≤ size_in head s.channels d.width (total_frames d s))
IsOpeningFault head d s WriteFailed = ⊤
IsOpeningFault head d s Memory = ⊤
IsOpeningFault head d s _ = ⊥
