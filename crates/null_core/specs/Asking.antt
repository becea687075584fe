-- What a mix and its takes ask a master to sound like.
use Rattle.std.specs.Prelude.{◌≡◌, ℕ, ◌+◌, ◌*◌, ◌<◌, ◌≤◌, ℤ, pos, ◌-ℤ◌, ◌*ℤ◌, List, [], length, map, slice_index_or}
use Rattle.dsd_bits.specs.Channels.{count_of}
use Rattle.dsd_bits.specs.Contents.{Content}
use Rattle.clip_core.specs.Clips.{ClipContent, points_of}
use Rattle.clip_core.specs.Mixes.{MixContent, mix_length, total}
use Rattle.cut_core.specs.Cuts.{AreAlike, take_at}
use Rattle.null_core.specs.Judged.{IsTooLoud, Nulls}
use Rattle.null_core.specs.Parts.{AskedContent, PartContent}

-- the taps of a clip's decoder
abbrev pub taps_of : MixContent → ClipContent → List ℤ
taps_of mix c = slice_index_or mix.decoders c.decoder []

-- a clip as a channel has it, with all bits of its take
abbrev pub part_of : MixContent → List Content → ℕ → ClipContent → PartContent
part_of mix takes channel c = record {
  take = c.take;
  ahead = pos c.start -ℤ pos c.at;
  at = c.at;
  size = c.length;
  points = points_of c.gains channel;
  taps = taps_of mix c;
  bits = slice_index_or (take_at takes c.take).channels channel [];
  start = c.start;
}

-- what a channel of the master is asked to be
abbrev pub asked_of : MixContent → List Content → ℕ → AskedContent
asked_of mix takes channel = record { unit = mix.unit; audible = mix.audible; every = mix.every; parts = map (part_of mix takes channel) mix.clips }

-- full scale of the residuals of a mix: twice its unit times the sum of what can be heard
abbrev pub IsFullScale : MixContent → ℕ → Type 0
IsFullScale mix full = pos full ≡ pos (2 * mix.unit) *ℤ total mix.audible

-- the clip ends within its take
abbrev pub IsInside : List Content → ClipContent → Type 0
IsInside takes c = c.start + c.length ≤ count_of (take_at takes c.take).channels

-- a recording has the takes' rate and number of channels, and as many bits a channel as the mix has places
pub record Fits (mix : MixContent) (takes : List Content) (master : Content) : Type 0 where
  pub alike : AreAlike (take_at takes 0) master
  pub long : count_of master.channels ≡ mix_length mix.clips

-- the master nulls: in no channel a residual at a judged place is above this one
pub record NullsAll (mix : MixContent) (takes : List Content) (master : Content) (most : ℕ) : Type 0 where
  pub fits : Fits mix takes master
  pub each : (channel : ℕ) → channel < length master.channels → Nulls (asked_of mix takes channel) (slice_index_or master.channels channel []) most

-- in no channel a place is too loud
abbrev pub IsQuiet : MixContent → List Content → Content → Type 0
IsQuiet mix takes master = (channel m : ℕ) → channel < length master.channels → IsTooLoud (asked_of mix takes channel) (slice_index_or master.channels channel []) m → ⊥
