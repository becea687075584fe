-- Samples as whole numbers.
use Rattle.std.specs.Prelude.{◌≡◌, ◌*◌, ◌/◌, ℕ, ℤ, List, All, Option, None, Some, take}
use Rattle.std.specs.List.{flat_map}
use Rattle.dsd_bits.specs.declared.sound.Sound.{Sound}
use Rattle.wave_core.specs.Contents.{IsSample}
use Rattle.wave_core.specs.Texts.{sample_bytes}
use Rattle.dsdarc_c.specs.Whole.{waiting}
use Rattle.dsdarc_c.specs.declared.pushing.Pushing.{Pushing}

-- these are the samples of this width that these bytes hold: each is in its range, and written as in a WAVE file they
-- are these bytes
pub record AreSamplesIn (width : ℕ) (bytes : List ℕ) (values : List ℤ) : Type 0 where
  pub in_range : All (IsSample width) values
  pub written : flat_map (sample_bytes width) values ≡ bytes

-- n numbers are the samples of whole frames of this sound; before a sound is stated there are none
abbrev pub AreWholeSamples : Option Sound → ℕ → Type 0
AreWholeSamples None n = n ≡ 0
AreWholeSamples (Some s) n = (frames : ℕ) × (n ≡ frames * s.channels)

-- how many bytes n samples of the filter have
abbrev pub sample_size : Pushing → ℕ → ℕ
sample_size p n = n * (p.taps.width / 8)

-- the bytes of the first n samples that wait
abbrev pub first_samples : Pushing → ℕ → List ℕ
first_samples p n = take (sample_size p n) (waiting p)
