-- What a verdict on a master says.
use Rattle.std.specs.Prelude.{◌≡◌, ℕ, ◌<◌, ◌≤◌, ◌⊎◌, ◌↔◌, Bool, List, [], length, map, slice_get, slice_index_or, MatchResult, Result, Ok, Err, Some, Vec, ◌≢◌}
use Rattle.std.specs.declared.alloc.Global.{Global}
use Rattle.dsd_bits.specs.Channels.{count_of}
use Rattle.dsd_bits.specs.Contents.{Content}
use Rattle.dsd_bits.specs.Stretches.{silent}
use Rattle.clip_core.specs.Mixes.{MixContent, mix_length}
use Rattle.cut_core.specs.Cuts.{AreAlike, take_at}
use Rattle.cut_core.specs.Excerpts.{excerpts_at}
use Rattle.null_core.specs.declared.stretch.Stretch.{Stretch}
use Rattle.null_core.specs.declared.verdict.Heard.{Heard}
use Rattle.null_core.specs.declared.verdict.LoudPlace.{LoudPlace}
use Rattle.cut_core.specs.declared.fitting.Shape.{Shape}
use Rattle.null_core.specs.declared.verdict.Verdict.{Verdict}
use Rattle.null_core.specs.declared.verdict.Verdict.TheVariants.{Accepted, MasterShape, MasterLength, TooLoud, Residual}
use Rattle.null_core.specs.Asking.{Fits, IsQuiet, NullsAll, asked_of}
use Rattle.null_core.specs.Errors.{residual_size}
use Rattle.null_core.specs.Judged.{IsJudged, IsTooLoud}
use Rattle.null_core.specs.Judging.{IsFirst}
use Rattle.null_core.specs.Reading.{IsReadOf, JudgesChannelOf, MixedContent}
use Rattle.null_core.specs.Stretches.{AreStretches}

-- the rate of a recording, and how many channels it has
abbrev pub shape_of : Content → Shape
shape_of r = record { rate = r.rate; channels = length r.channels }

-- the bits of a channel
abbrev pub channel_bits : Content → ℕ → List Bool
channel_bits r channel = slice_index_or r.channels channel []

-- the lists of stretches, one for each channel, are those of the master
pub record AreAllStretches (mix : MixContent) (takes : List Content) (master : Content) (stretches : List (List Stretch)) : Type 0 where
  pub as_many : length stretches ≡ length master.channels
  pub each : (channel : ℕ) → channel < length master.channels → AreStretches (asked_of mix takes channel) (channel_bits master channel) (slice_index_or stretches channel [])

-- a place of a channel is judged
pub record IsJudgedIn (mix : MixContent) (takes : List Content) (master : Content) (channel n : ℕ) : Type 0 where
  pub there : channel < length master.channels
  pub judged : IsJudged (asked_of mix takes channel) (channel_bits master channel) n

-- how large the residual at a place of a channel is
abbrev pub size_in : MixContent → List Content → Content → ℕ → ℕ → ℕ
size_in mix takes master channel n = residual_size (asked_of mix takes channel) (channel_bits master channel) n

-- the greatest residual at the judged places of all channels; 0 if no place is judged
pub record IsGreatestOfAll (mix : MixContent) (takes : List Content) (master : Content) (greatest : ℕ) : Type 0 where
  pub most : (channel n : ℕ) → IsJudgedIn mix takes master channel n → size_in mix takes master channel n ≤ greatest
  pub reached : (greatest ≡ 0) ⊎ ((channel n : ℕ) × IsJudgedIn mix takes master channel n × (size_in mix takes master channel n ≡ greatest))

-- a place of a channel is too loud
pub record IsTooLoudIn (mix : MixContent) (takes : List Content) (master : Content) (channel m : ℕ) : Type 0 where
  pub there : channel < length master.channels
  pub loud : IsTooLoud (asked_of mix takes channel) (channel_bits master channel) m

-- a channel has a place that is too loud
abbrev pub HasLoud : MixContent → List Content → Content → ℕ → Type 0
HasLoud mix takes master channel = (m : ℕ) × IsTooLoudIn mix takes master channel m

-- the stretch of a number has a residual above this one
pub record IsAbove (most : ℕ) (stretches : List Stretch) (i : ℕ) : Type 0 where
  pub stretch : Stretch
  pub there : slice_get stretches i ≡ Some stretch
  pub above : most < stretch.residual

-- a channel has a stretch with a residual above this one
pub record HasAbove (most : ℕ) (stretches : List (List Stretch)) (channel : ℕ) : Type 0 where
  pub there : channel < length stretches
  pub number : ℕ
  pub above : IsAbove most (slice_index_or stretches channel []) number

-- this is the place of the first stretch of a channel whose residual is above
pub record IsFirstAbove (most : ℕ) (stretches : List Stretch) (place : ℕ) : Type 0 where
  pub number : ℕ
  pub first : IsFirst (IsAbove most stretches) number
  pub place_is : place ≡ (first.here.stretch).place

-- what is found in a master that fits and in which no place is too loud: the stretches of each channel
pub record AreFound (mix : MixContent) (takes : List Content) (master : Content) (stretches : List (List Stretch)) : Type 0 where
  pub fits : Fits mix takes master
  pub quiet : IsQuiet mix takes master
  pub found : AreAllStretches mix takes master stretches

-- what was heard, the stretches as lists
abbrev pub stretch_lists : Heard → List (List Stretch)
stretch_lists heard = map (λ (stretches : Vec Stretch Global). stretches.items) heard.stretches.items

-- a verdict says the first of these that applies: the master has another shape, another length, or a place that is too
-- loud, each without stretches; a residual above the limit; or it nulls
abbrev pub IsVerdict : MixContent → List Content → Content → List (List Stretch) → Verdict → Type 0
IsVerdict mix takes master stretches (MasterShape found wanted) = (AreAlike (take_at takes 0) master → ⊥) × (found ≡ shape_of master) × (wanted ≡ shape_of (take_at takes 0)) × (stretches ≡ [])
IsVerdict mix takes master stretches (MasterLength found wanted) = AreAlike (take_at takes 0) master × (found ≢ wanted) × (found ≡ count_of master.channels) × (wanted ≡ mix_length mix.clips) × (stretches ≡ [])
IsVerdict mix takes master stretches (TooLoud channel place) = Fits mix takes master × IsFirst (HasLoud mix takes master) channel × IsFirst (IsTooLoudIn mix takes master channel) place × (stretches ≡ [])
IsVerdict mix takes master stretches (Residual channel place) = AreFound mix takes master stretches × IsFirst (HasAbove mix.limit stretches) channel × IsFirstAbove mix.limit (slice_index_or stretches channel []) place
IsVerdict mix takes master stretches (Accepted residual) = AreFound mix takes master stretches × NullsAll mix takes master mix.limit × IsGreatestOfAll mix takes master residual

-- whichever takes were read, this is what is heard of a master
abbrev pub IsHeard : MixedContent → Content → Heard → Type 0
IsHeard mixed master heard = (takes : List Content) → IsReadOf mixed takes → IsVerdict mixed.mix takes master (stretch_lists heard) heard.verdict

-- the master is accepted
abbrev pub IsAccepted : Verdict → Type 0
IsAccepted verdict = (residual : ℕ) × (verdict ≡ Accepted residual)

-- whichever takes were read, a master is accepted exactly if it nulls with the mix's limit and no place is too loud
abbrev pub AcceptsExactly : MixedContent → Content → Heard → Type 0
AcceptsExactly mixed master heard = (takes : List Content) → IsReadOf mixed takes → IsAccepted heard.verdict ↔ (NullsAll mixed.mix takes master mixed.mix.limit × IsQuiet mixed.mix takes master)

-- ---- step by step
-- whichever takes were read, this is a verdict
abbrev pub IsVerdictOn : MixedContent → Content → List (List Stretch) → Verdict → Type 0
IsVerdictOn mixed master stretches verdict = (takes : List Content) → IsReadOf mixed takes → IsVerdict mixed.mix takes master stretches verdict

-- this is a master without its bits, and how many each of its channels has
pub record IsOutlineOf (recording : Content) (count : ℕ) (master : Content) : Type 0 where
  pub is_silent : recording ≡ silent master
  pub count_is : count ≡ count_of master.channels

-- a master has the shape of the first take, and the length of the mix
pub record FitsFirst (mixed : MixedContent) (master : Content) : Type 0 where
  pub alike : AreAlike (excerpts_at mixed.read 0).recording master
  pub long : count_of master.channels ≡ mix_length mixed.mix.clips

-- the stretches of the first n channels, in which no place is too loud
pub record AreJudgedTo (mixed : MixedContent) (channels : List (List Bool)) (n : ℕ) (stretches : List (List Stretch)) : Type 0 where
  pub as_many : length stretches ≡ n
  pub each : (channel : ℕ) → channel < n → JudgesChannelOf mixed channel (slice_index_or channels channel []) (Ok (slice_index_or stretches channel []))

-- the first place that is too loud, in the first channel that has one
pub record IsFirstLoud (mixed : MixedContent) (channels : List (List Bool)) (loud : LoudPlace) : Type 0 where
  pub there : loud.channel < length channels
  pub first : JudgesChannelOf mixed loud.channel (slice_index_or channels loud.channel []) (Err loud.place)
  pub before : List (List Stretch)
  pub judged : AreJudgedTo mixed channels loud.channel before

-- what was found in all channels, its stretches as lists
abbrev pub found_lists : Result (Vec (Vec Stretch Global) Global) LoudPlace → Result (List (List Stretch)) LoudPlace
found_lists (Ok stretches) = Ok (map (λ (found : Vec Stretch Global). found.items) stretches.items)
found_lists (Err loud) = Err loud

-- the stretches of all channels, in which no place is too loud; or the first place that is
abbrev pub JudgesAll : MixedContent → List (List Bool) → Result (List (List Stretch)) LoudPlace → Type 0
JudgesAll mixed channels found = MatchResult found (AreJudgedTo mixed channels (length channels)) (IsFirstLoud mixed channels)

-- the greatest residual of some stretches; 0 if there are none
pub record IsGreatestIn (stretches : List Stretch) (greatest : ℕ) : Type 0 where
  pub most : (i : ℕ) (s : Stretch) → slice_get stretches i ≡ Some s → s.residual ≤ greatest
  pub reached : (greatest ≡ 0) ⊎ ((i : ℕ) × (s : Stretch) × (slice_get stretches i ≡ Some s) × (s.residual ≡ greatest))

-- the greatest residual of the stretches of the first n channels
pub record IsGreatestTo (stretches : List (List Stretch)) (n greatest : ℕ) : Type 0 where
  pub most : (channel i : ℕ) (s : Stretch) → channel < n → slice_get (slice_index_or stretches channel []) i ≡ Some s → s.residual ≤ greatest
  pub reached : (greatest ≡ 0) ⊎ ((channel i : ℕ) × (s : Stretch) × (channel < n) × (slice_get (slice_index_or stretches channel []) i ≡ Some s) × (s.residual ≡ greatest))

-- the verdict by the stretches of all channels and a limit
abbrev pub IsVerdictBy : ℕ → List (List Stretch) → Verdict → Type 0
IsVerdictBy limit stretches (Residual channel place) = IsFirst (HasAbove limit stretches) channel × IsFirstAbove limit (slice_index_or stretches channel []) place
IsVerdictBy limit stretches (Accepted residual) = IsGreatestTo stretches (length stretches) residual × (residual ≤ limit)
IsVerdictBy limit stretches (MasterShape found wanted) = ⊥
IsVerdictBy limit stretches (MasterLength found wanted) = ⊥
IsVerdictBy limit stretches (TooLoud channel place) = ⊥
