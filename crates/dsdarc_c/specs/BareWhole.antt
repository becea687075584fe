-- A whole file that is pushed piece by piece to a player without a filter, and what was pulled of the bits of its sound.
use Rattle.std.specs.Prelude.{◌≡◌, ◌+◌, ◌≤◌, ◌⊎◌, ℕ, List, [], ◌++◌, length, slice_range, take, Option, None, Some}
use Rattle.dsd_bits.specs.declared.sound.Sound.{Sound}
use Rattle.dsd_bits.specs.Sounds.{sound_bytes}
use Rattle.native_core.specs.declared.layout.Layout.{Layout}
use Rattle.native_core.specs.declared.run.BitRun.{BitRun}
use Rattle.native_core.specs.Runs.{IsGiven, frames_from}
use Rattle.dsdarc_c.specs.Bare.{bare_waiting}
use Rattle.dsdarc_c.specs.Pushing.{IsPushedHeader}
use Rattle.dsdarc_c.specs.Whole.{BeginsWith, IsPrefixOf, KeepsForm}
use Rattle.dsdarc_c.specs.declared.bare.Bare.{Bare}
use Rattle.dsdarc_c.specs.declared.bare.BareStage.{BareStage}
use Rattle.dsdarc_c.specs.declared.bare.BareStage.TheVariants as stages

-- the bits of a file's sound as frames of this layout, from this frame to the last
abbrev pub bits_from : Layout → Sound → List ℕ → ℕ → List ℕ
bits_from layout s file start = frames_from layout s (sound_bytes file s) start

-- if the file has all bytes of the sound, its frames from this one on begin with these bytes
abbrev pub BitsComeFirst : Layout → Sound → List ℕ → ℕ → List ℕ → Type 0
BitsComeFirst layout s file start out =
    s.start + s.size ≤ length file → IsPrefixOf out (bits_from layout s file start)

-- there are no bytes, or they come first among the frames of the sound that the file's header states
abbrev pub IsPrefixOfBits : Layout → List ℕ → ℕ → List ℕ → Type 0
IsPrefixOfBits layout file start out =
    (out ≡ []) ⊎ ((s : Sound) × IsPushedHeader (take s.start file) s × BitsComeFirst layout s file start out)

-- if the file has all bytes of the sound, these are the bytes of its frames from this one on
abbrev pub AreAllBits : Layout → Sound → List ℕ → ℕ → List ℕ → Type 0
AreAllBits layout s file start out = s.start + s.size ≤ length file → out ≡ bits_from layout s file start

-- a run got the bytes of the file's sound up to this place, and gave these bytes of its frames
pub record PlaysRun (file : List ℕ) (start : ℕ) (out header : List ℕ) (place : ℕ) (s : Sound) (r : BitRun) : Type 0 where
  pub begins : BeginsWith file header
  pub given : s.start + s.size ≤ length file → IsGiven start (slice_range file s.start place) out r

-- the whole sound was pushed: all frames were given, and these bytes of the form after it are kept
abbrev pub PlaysAllBits : Layout → List ℕ → ℕ → List ℕ → List ℕ → ℕ → Sound → List ℕ → Type 0
PlaysAllBits layout file start out header place s back =
    BeginsWith file header × AreAllBits layout s file start out × KeepsForm file header s place back

-- the same of a run that goes on; without one, all frames were given, and nothing after the sound was pushed
abbrev pub PlaysRunOrAll : Layout → List ℕ → ℕ → List ℕ → List ℕ → ℕ → Sound → Option BitRun → Type 0
PlaysRunOrAll layout file start out header place s None = PlaysAllBits layout file start out header place s []
PlaysRunOrAll layout file start out header place s (Some r) = PlaysRun file start out header place s r

-- what each stage says of the file's bytes before this place, and of the bytes of frames that were given since the
-- frame that was sought
abbrev pub PlaysBareStage : Layout → List ℕ → ℕ → List ℕ → List ℕ → ℕ → BareStage → Type 0
PlaysBareStage layout file start out header place (stages.Header walked) = BeginsWith file header × (start ≡ 0) × (out ≡ [])
PlaysBareStage layout file start out header place (stages.Open s) = BeginsWith file header × (start ≡ 0) × (out ≡ [])
PlaysBareStage layout file start out header place (stages.Sound s r) = PlaysRun file start out header place s r
PlaysBareStage layout file start out header place (stages.After s back) = PlaysAllBits layout file start out header place s back.items
PlaysBareStage layout file start out header place stages.Failed = IsPrefixOfBits layout file start out

-- the player was pushed the bytes of this file, and these bytes of its frames were pulled since this frame was sought,
-- or since the file's first byte
pub record PlaysBits (file : List ℕ) (start : ℕ) (pulled : List ℕ) (p : Bare) : Type 0 where
  pub stage : PlaysBareStage p.layout file start (pulled ++ bare_waiting p) p.header.items p.place p.stage

-- the file ends here: what was pulled and what can be pulled are all its frames from this one on
pub record EndsBits (file : List ℕ) (start : ℕ) (pulled : List ℕ) (p : Bare) : Type 0 where
  pub sound : Sound
  pub header : IsPushedHeader (take sound.start file) sound
  pub in_file : sound.start + sound.size ≤ length file
  pub all : pulled ++ bare_waiting p ≡ bits_from p.layout sound file start
