-- Clips, and their limits.
use Rattle.std.specs.Prelude.{ℕ, ◌+◌, ◌^◌, ◌<◌, ◌≤◌, Bool, ◌&&◌, nat_le, nat_lt, List, [], ◌∷◌, All, length, map, slice_index_or, Vec}
use Rattle.std.specs.declared.alloc.Global.{Global}
use Rattle.clip_core.specs.declared.clip.Clip.{Clip}
use Rattle.clip_core.specs.declared.gain.Point.{Point}
use Rattle.clip_core.specs.declared.gain.Gains.{Gains}
use Rattle.clip_core.specs.declared.gain.Gains.TheVariants.{Full, Alike, Each}
use Rattle.clip_core.specs.Gains.{ArePoints}

-- the gains of a clip: full gain, the same points for all channels, or points for each channel
pub data GainContent : Type 0 where
  full : GainContent
  alike : List Point → GainContent
  each : List (List Point) → GainContent

-- what the gains of a clip hold
abbrev pub gain_content : Gains → GainContent
gain_content Full = full
gain_content (Alike points) = alike points.items
gain_content (Each lists) = each (map (λ (points : Vec Point Global). points.items) lists.items)

-- a clip: the numbers of its take and of its decoder, the bit of the take at its first place, this place in the mix, how
-- many places it has, and its gains
pub record ClipContent : Type 0 where
  pub take : ℕ
  pub decoder : ℕ
  pub start : ℕ
  pub at : ℕ
  pub length : ℕ
  pub gains : GainContent

-- what a clip holds
abbrev pub clip_content : Clip → ClipContent
clip_content c = record { take = c.take; decoder = c.decoder; start = c.start; at = c.at; length = c.length; gains = gain_content c.gains }

-- the points of a channel
abbrev pub points_of : GainContent → ℕ → List Point
points_of full c = []
points_of (alike points) c = points
points_of (each lists) c = slice_index_or lists c []

-- points that a text has given: at least one, within the limits
pub record ArePointsGiven (points : List Point) : Type 0 where
  pub some : 1 ≤ length points
  pub within : ArePoints points

-- all lists of points that a clip's gains have
abbrev pub lists_of : GainContent → List (List Point)
lists_of full = []
lists_of (alike points) = points ∷ []
lists_of (each lists) = lists

-- the limits of the gains of a clip
abbrev pub AreGains : GainContent → Type 0
AreGains gains = All ArePointsGiven (lists_of gains)

-- the clip has a place of the mix
abbrev pub has_place : ℕ → ClipContent → Bool
has_place m c = nat_le c.at m && nat_lt m (c.at + c.length)

-- the limits of a clip, for a number of takes and of decoders
pub record IsClipWithin (takes decoders : ℕ) (c : ClipContent) : Type 0 where
  pub take_is_there : c.take < takes
  pub decoder_is_there : c.decoder < decoders
  pub start_fits : c.start ≤ 2 ^ 36
  pub some_places : 1 ≤ c.length
  pub end_fits : c.at + c.length ≤ 2 ^ 36
  pub gains_fit : AreGains c.gains
