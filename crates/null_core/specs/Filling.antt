-- What is held of a master's sound while its file is read, and of the whole file.
use Rattle.std.specs.Prelude.{◌≡◌, ℕ, ◌<◌, Bool, List, [], ◌++◌, length, slice_index_or, Vec}
use Rattle.std.specs.declared.alloc.Global.{Global}
use Rattle.dsd_bits.specs.declared.sound.Sound.{Sound}
use Rattle.dsd_bits.specs.Sounds.{sound_channels}
use Rattle.clip_core.specs.Mixes.{mix_length}
use Rattle.cut_core.specs.Excerpts.{excerpts_at}
use Rattle.sound_core.specs.Outlines.{IsPlacedIn, around_of, with_sound}
use Rattle.sound_core.specs.declared.outline.Outline.{Outline}
use Rattle.null_core.specs.declared.filler.Filler.{Filler}
use Rattle.null_core.specs.declared.part.Part.{Part}
use Rattle.null_core.specs.Reading.{MixedContent, channels_of}

-- a sound has the rate and the number of channels of the takes, and as many bits a channel as the mix has places
pub record HasMeasure (mixed : MixedContent) (s : Sound) : Type 0 where
  pub rate : s.rate ≡ (excerpts_at mixed.read 0).recording.rate
  pub number : s.channels ≡ channels_of mixed
  pub long : s.count ≡ mix_length mixed.mix.clips

-- ---- a sound that is read
-- these bits were added to each channel
pub record AreLonger (bits old new : List (List Bool)) : Type 0 where
  pub number : length new ≡ length old
  pub each : (c : ℕ) → c < length old → slice_index_or new c [] ≡ slice_index_or old c [] ++ slice_index_or bits c []

-- these are the channels in the first bytes of a sound, which are `done` bits of each, and there are parts for each
pub record IsFilled (s : Sound) (done : ℕ) (parts : List (Vec Part Global)) (channels : List (List Bool)) (bytes : List ℕ) : Type 0 where
  pub with_parts : length parts ≡ s.channels
  pub channels_are : channels ≡ sound_channels s.interleaving s.channels done bytes

-- the filler's mix is that of the first one, and it holds the channels of a sound that has the measure of the mix
pub record IsFilling (first f : Filler) (s : Sound) (done : ℕ) (bytes : List ℕ) : Type 0 where
  pub same : f.mixed.now ≡ first.mixed.now
  pub filled : HasMeasure f.mixed.now s → IsFilled s done f.parts.items f.channels.items bytes

-- ---- the whole file
-- the file is the outline with some sound, and these are the channels of that sound if it has the measure of the mix
abbrev pub IsFileOf : MixedContent → Outline → List (List Bool) → List ℕ → Type 0
IsFileOf mixed o channels file = (sound : List ℕ) × IsPlacedIn (around_of o) file sound × (HasMeasure mixed o.sound → channels ≡ (with_sound o.recording o.sound sound).channels)
