-- A mix with what was read of its takes.
use Rattle.std.specs.Prelude.{◌≡◌, ℕ, ◌<◌, Bool, IsTrue, List, [], All, length, map, slice_index_or, Result, ⊤}
use Rattle.dsd_bits.specs.Contents.{Content}
use Rattle.dsd_bits.specs.Shape.{HasShape}
use Rattle.clip_core.specs.Mixes.{MixContent}
use Rattle.cut_core.specs.Cuts.{each_below, take_at}
use Rattle.cut_core.specs.Excerpts.{ExcerptsContent, excerpts_at, excerpts_content}
use Rattle.cut_core.specs.declared.excerpts.Excerpts.{Excerpts}
use Rattle.null_core.specs.Fitting.{IsFaultOf, ShapesFit, shapes_of}
use Rattle.null_core.specs.Asking.{asked_of, part_of}
use Rattle.null_core.specs.Holding.{AreExcerpts, clip_at, excerpts_of, serves}
use Rattle.null_core.specs.Judging.{IsFirst, JudgesChannel}
use Rattle.null_core.specs.Likeness.{AreExcerptsOf, IsExcerptOf}
use Rattle.null_core.specs.Parts.{PartContent}
use Rattle.null_core.specs.declared.fault.MixedFault.{MixedFault}
use Rattle.null_core.specs.declared.fault.MixedFault.TheVariants.{Memory}
use Rattle.null_core.specs.declared.stretch.Stretch.{Stretch}

-- what is read for clip j is the first that has all that clip i needs
abbrev pub IsHolder : MixContent → ℕ → ℕ → Type 0
IsHolder mix i = IsFirst (λ j. IsTrue (serves mix i j))

-- a mix, and what was read of each of its takes
pub record MixedContent : Type 0 where
  pub mix : MixContent
  pub read : List ExcerptsContent

-- this was read of these takes, which obey the rules of recordings
pub record IsReadOf (mixed : MixedContent) (takes : List Content) : Type 0 where
  pub shaped : All HasShape takes
  pub read : mixed.read ≡ each_below (length takes) (λ number. excerpts_of mixed.mix number (take_at takes number))

-- this was read of some takes, as many as the mix has, which fit it
pub record IsMixed (mixed : MixedContent) : Type 0 where
  pub takes : List Content
  pub read : IsReadOf mixed takes
  pub as_many : length takes ≡ length mixed.mix.takes
  pub fit : ShapesFit mixed.mix (shapes_of takes)

-- a mix and what it reads of its takes
abbrev pub mixed_of : MixContent → List Excerpts → MixedContent
mixed_of mix hs = record { mix = mix; read = map excerpts_content hs }

-- `hs` is what the mix reads of some takes, as many as it has
pub record AreOfTakes (mix : MixContent) (hs : List Excerpts) : Type 0 where
  pub whole : List Content
  pub excerpts : AreExcerpts mix whole hs
  pub as_many : length whole ≡ length mix.takes

-- whichever takes this was read of fit the mix
abbrev pub TakesFit : MixContent → List Excerpts → Type 0
TakesFit mix hs = (whole : List Content) → AreExcerpts mix whole hs → ShapesFit mix (shapes_of whole)

-- memory ran out, or this is the first fault of whichever takes this was read of
abbrev pub IsFaultOfTakes : MixContent → List Excerpts → MixedFault → Type 0
IsFaultOfTakes mix hs Memory = ⊤
IsFaultOfTakes mix hs fault = (whole : List Content) → AreExcerpts mix whole hs → IsFaultOf mix (shapes_of whole) fault

-- how many channels the takes have, and so the master should have
abbrev pub channels_of : MixedContent → ℕ
channels_of mixed = length (excerpts_at mixed.read 0).recording.channels

-- ---- the clips as a channel has them
-- the bits of a channel that were read for clip `held` from the take of a number
abbrev pub bits_at : List ExcerptsContent → ℕ → ℕ → ℕ → List Bool
bits_at read number held channel = slice_index_or (slice_index_or (excerpts_at read number).stretches held []) channel []

-- something was read for clip `held` from the take of a number in this channel
pub record HasBits (read : List ExcerptsContent) (number held channel : ℕ) : Type 0 where
  pub take_there : number < length read
  pub clip_there : held < length (excerpts_at read number).stretches
  pub channel_there : channel < length (slice_index_or (excerpts_at read number).stretches held [])

-- whichever takes were read, the part is an excerpt of clip i as a channel has it
abbrev pub IsPartOf : MixedContent → ℕ → ℕ → PartContent → Type 0
IsPartOf mixed channel i p = (takes : List Content) → IsReadOf mixed takes → IsExcerptOf (part_of mixed.mix takes channel (clip_at mixed.mix i)) p

-- whichever takes were read, the parts are excerpts of all clips as a channel has them
abbrev pub ArePartsOf : MixedContent → ℕ → List PartContent → Type 0
ArePartsOf mixed channel parts = (takes : List Content) → IsReadOf mixed takes → AreExcerptsOf (map (part_of mixed.mix takes channel) mixed.mix.clips) parts

-- whichever takes were read, this is found in the bits of a channel, of which all clips are asked for
abbrev pub JudgesChannelOf : MixedContent → ℕ → List Bool → Result (List Stretch) ℕ → Type 0
JudgesChannelOf mixed channel bits found = (takes : List Content) → IsReadOf mixed takes → JudgesChannel (asked_of mixed.mix takes channel) bits found
