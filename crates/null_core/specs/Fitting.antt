-- Whether takes fit a mix, and the first fault if they don't.
use Rattle.std.specs.Prelude.{◌≡◌, ℕ, ◌+◌, ◌<◌, ◌≤◌, List, length, ⊤}
use Rattle.dsd_bits.specs.Contents.{Content}
use Rattle.clip_core.specs.Clips.{ClipContent, GainContent}
use Rattle.clip_core.specs.Clips.GainContent.{full, alike, each}
use Rattle.clip_core.specs.Mixes.{MixContent}
use Rattle.cut_core.specs.Cuts.{take_at}
use Rattle.cut_core.specs.Excerpts.{ExcerptsContent, TakeShape, excerpts_at, excerpts_shape, shape_of}
use Rattle.null_core.specs.Holding.{clip_at}
use Rattle.null_core.specs.Judging.{IsFirst}
use Rattle.null_core.specs.declared.fault.MixedFault.{MixedFault}
use Rattle.null_core.specs.declared.fault.MixedFault.TheVariants.{TakeMismatch, ClipOutside, ClipGains, Memory}

-- the shape of each take, by its number
abbrev pub shapes_of : List Content → ℕ → TakeShape
shapes_of takes number = shape_of (take_at takes number)

-- the same from what was read of the takes
abbrev pub read_shapes : List ExcerptsContent → ℕ → TakeShape
read_shapes read number = excerpts_shape (excerpts_at read number)

-- a take has the rate and the number of channels of take 0
pub record IsLikeFirst (shapes : ℕ → TakeShape) (number : ℕ) : Type 0 where
  pub same_rate : (shapes number).rate ≡ (shapes 0).rate
  pub as_many_channels : (shapes number).channels ≡ (shapes 0).channels

-- gains that are given for each channel are given for this many
abbrev pub AreForChannels : ℕ → GainContent → Type 0
AreForChannels number full = ⊤
AreForChannels number (alike points) = ⊤
AreForChannels number (each lists) = length lists ≡ number

-- the clip ends within its take
abbrev pub EndsInside : (ℕ → TakeShape) → ClipContent → Type 0
EndsInside shapes c = c.start + c.length ≤ (shapes c.take).count

-- a clip ends within its take, and has gains for as many channels as the takes have
pub record ClipFits (shapes : ℕ → TakeShape) (c : ClipContent) : Type 0 where
  pub inside : EndsInside shapes c
  pub gains : AreForChannels (shapes 0).channels c.gains

-- the first takes, as many as this, are alike
abbrev pub AreAlike : ℕ → (ℕ → TakeShape) → Type 0
AreAlike takes shapes = (number : ℕ) → number < takes → IsLikeFirst shapes number

-- takes of these shapes fit the mix: they are alike, and each clip fits
pub record ShapesFit (mix : MixContent) (shapes : ℕ → TakeShape) : Type 0 where
  pub alike : AreAlike (length mix.takes) shapes
  pub each_fits : (i : ℕ) → i < length mix.clips → ClipFits shapes (clip_at mix i)

-- one of this many takes isn't like the first
pub record IsUnlike (takes : ℕ) (shapes : ℕ → TakeShape) (number : ℕ) : Type 0 where
  pub there : number < takes
  pub unlike : IsLikeFirst shapes number → ⊥

-- a clip doesn't fit
pub record IsMisfit (mix : MixContent) (shapes : ℕ → TakeShape) (i : ℕ) : Type 0 where
  pub there : i < length mix.clips
  pub misfit : ClipFits shapes (clip_at mix i) → ⊥

-- the takes are alike, and this is the first clip that doesn't fit
pub record IsFirstMisfit (mix : MixContent) (shapes : ℕ → TakeShape) (i : ℕ) : Type 0 where
  pub alike : AreAlike (length mix.takes) shapes
  pub first : IsFirst (IsMisfit mix shapes) i

-- the first fault of takes of these shapes
abbrev pub IsFaultOf : MixContent → (ℕ → TakeShape) → MixedFault → Type 0
IsFaultOf mix shapes (TakeMismatch number) = IsFirst (IsUnlike (length mix.takes) shapes) number
IsFaultOf mix shapes (ClipOutside i) = IsFirstMisfit mix shapes i × (EndsInside shapes (clip_at mix i) → ⊥)
IsFaultOf mix shapes (ClipGains i) = IsFirstMisfit mix shapes i × EndsInside shapes (clip_at mix i)
IsFaultOf mix shapes Memory = ⊥
