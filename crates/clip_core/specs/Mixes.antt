-- Mixes, and their limits.
use Rattle.std.specs.Prelude.{◌≡◌, ℕ, ◌+◌, ◌%◌, ◌-◌, ◌^◌, ◌<◌, ◌≤◌, max, ℤ, pos, ◌+ℤ◌, ◌<ℤ◌, unsigned_abs, List, [], ◌∷◌, All, length, map, string_bytes, if◌then◌else◌, Vec}
use Rattle.std.specs.declared.alloc.Global.{Global}
use Rattle.std.specs.List.{sum_by}
use Rattle.std.specs.declared.string.String.{String}
use Rattle.clip_core.specs.declared.clip.Clip.{Clip}
use Rattle.clip_core.specs.Clips.{ClipContent, IsClipWithin, clip_content, has_place}

-- a mix: full scale, the taps of what can be heard, the greatest residual that is accepted, which places are judged, the
-- names of the takes, the taps of each decoder, and the clips
pub record MixContent : Type 0 where
  pub unit : ℕ
  pub audible : List ℤ
  pub limit : ℕ
  pub every : ℕ
  pub takes : List (List ℕ)
  pub decoders : List (List ℤ)
  pub clips : List ClipContent

-- the mix that these make
abbrev pub mix_of : ℕ → List ℤ → ℕ → ℕ → List (String Global) → List (Vec ℤ Global) → List Clip → MixContent
mix_of unit audible limit every takes decoders clips = record {
  unit = unit;
  audible = audible;
  limit = limit;
  every = every;
  takes = map string_bytes takes;
  decoders = map (λ (taps : Vec ℤ Global). taps.items) decoders;
  clips = map clip_content clips;
}

-- the sum of whole numbers
abbrev pub total : List ℤ → ℤ
total [] = pos 0
total (x ∷ xs) = x +ℤ total xs

-- an odd number of taps, at most 65,535, whose absolute values add up to at most a limit
pub record AreTaps (limit : ℕ) (taps : List ℤ) : Type 0 where
  pub odd : length taps % 2 ≡ 1
  pub few : length taps ≤ 65535
  pub small_sum : sum_by unsigned_abs taps ≤ limit

-- how many clips have a place of the mix
abbrev pub clips_at : ℕ → List ClipContent → ℕ
clips_at m clips = sum_by (λ c. if has_place m c then 1 else 0) clips

-- at most 64 clips have any one place
abbrev pub AreApart : List ClipContent → Type 0
AreApart clips = (m : ℕ) → clips_at m clips ≤ 64

-- the place after the last one of a clip
abbrev pub clip_end : ClipContent → ℕ
clip_end c = c.at + c.length

-- how many places a mix has: up to the last end of a clip
abbrev pub mix_length : List ClipContent → ℕ
mix_length [] = 0
mix_length (c ∷ cs) = max (clip_end c) (mix_length cs)

-- the limits of a mix
pub record IsMixing (x : MixContent) : Type 0 where
  pub some_unit : 1 ≤ x.unit
  pub unit_fits : x.unit ≤ 2 ^ 28
  pub audible_fits : AreTaps (2 ^ 31 - 1) x.audible
  pub audible_sum : pos 0 <ℤ total x.audible
  pub limit_fits : x.limit < 2 ^ 63
  pub some_every : 1 ≤ x.every
  pub every_fits : x.every ≤ 64
  pub some_takes : 1 ≤ length x.takes
  pub few_takes : length x.takes ≤ 16
  pub some_decoders : 1 ≤ length x.decoders
  pub few_decoders : length x.decoders ≤ 16
  pub decoders_fit : All (AreTaps (2 ^ 28)) x.decoders
  pub some_clips : 1 ≤ length x.clips
  pub few_clips : length x.clips ≤ 1024
  pub each_fits : All (IsClipWithin (length x.takes) (length x.decoders)) x.clips
  pub apart : AreApart x.clips
