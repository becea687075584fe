-- What a channel of a master is asked to sound like: parts of takes, added up.
use Rattle.std.specs.Prelude.{ℕ, ◌+◌, ◌-◌, ◌/◌, ◌^◌, ◌≤◌, ℤ, pos, ◌*ℤ◌, Bool, ◌&&◌, false, nat_le, nat_lt, List, All, length, map, slice_index_or, if◌then◌else◌}
use Rattle.std.specs.List.{sum_by}
use Rattle.clip_core.specs.declared.gain.Point.{Point}
use Rattle.clip_core.specs.Gains.{ArePoints, gain}
use Rattle.clip_core.specs.Mixes.{AreTaps, total}
use Rattle.heard_core.specs.Sounds.{decoded}
use Rattle.null_core.specs.declared.part.Part.{Part}
use Rattle.null_core.specs.declared.asked.Asked.{Asked}

-- a clip as a channel has it: the number of its take, how far the take is ahead of the mix, its first place in the mix and
-- how many places it has, the points of its gain, the taps that decode it, bits of its take, and which of these is at its
-- first place
pub record PartContent : Type 0 where
  pub take : ℕ
  pub ahead : ℤ
  pub at : ℕ
  pub size : ℕ
  pub points : List Point
  pub taps : List ℤ
  pub bits : List Bool
  pub start : ℕ

-- what a part in memory holds
abbrev pub part_content : Part → PartContent
part_content p = record { take = p.take; ahead = p.ahead; at = p.at; size = p.size; points = p.points.now; taps = p.decoder.now; bits = p.bits.now; start = p.start }

-- the part has a place of the mix
abbrev pub has_place : ℕ → PartContent → Bool
has_place m p = nat_le p.at m && nat_lt m (p.at + p.size)

-- the gain of a part at a place of the mix
abbrev pub part_gain : PartContent → ℕ → ℤ
part_gain p m = gain p.points (m - p.at)

-- the bit of the take at a place of the mix
abbrev pub part_bit : PartContent → ℕ → Bool
part_bit p m = slice_index_or p.bits (p.start + (m - p.at)) false

-- what a part adds to the mix at a place
abbrev pub added : ℕ → PartContent → ℤ
added m p = if has_place m p then part_gain p m *ℤ decoded p.taps p.bits (p.start + (m - p.at)) else pos 0

-- the mix at a place: what all parts add there
abbrev pub mix_at : List PartContent → ℕ → ℤ
mix_at parts m = total (map (added m) parts)

-- how many parts have a place of the mix
abbrev pub parts_at : ℕ → List PartContent → ℕ
parts_at m parts = sum_by (λ p. if has_place m p then 1 else 0) parts

-- the limits of a part
pub record IsPart (p : PartContent) : Type 0 where
  pub end_fits : p.at + p.size ≤ 2 ^ 36
  pub bits_reach : p.start + p.size ≤ length p.bits
  pub points_fit : ArePoints p.points
  pub taps_fit : AreTaps (2 ^ 28) p.taps

-- what a channel is asked to be: full scale, the taps of what can be heard, which places are judged, and the parts
pub record AskedContent : Type 0 where
  pub unit : ℕ
  pub audible : List ℤ
  pub every : ℕ
  pub parts : List PartContent

-- what is asked for, as memory holds it
abbrev pub asked_content : Asked → AskedContent
asked_content a = record { unit = a.unit; audible = a.audible.now; every = a.every; parts = map part_content a.parts.now }

-- the limits of what is asked for
pub record IsAsked (a : AskedContent) : Type 0 where
  pub some_unit : 1 ≤ a.unit
  pub unit_fits : a.unit ≤ 2 ^ 28
  pub audible_fits : AreTaps (2 ^ 31 - 1) a.audible
  pub some_every : 1 ≤ a.every
  pub every_fits : a.every ≤ 64
  pub few_parts : length a.parts ≤ 1024
  pub each_fits : All IsPart a.parts
  pub apart : (m : ℕ) → parts_at m a.parts ≤ 64

-- how far from a place `audible` reaches, in places
abbrev pub reach : AskedContent → ℕ
reach a = length a.audible / 2
