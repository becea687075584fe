-- Where a channel of a master isn't that of its cues.
use Rattle.std.specs.Prelude.{◌≡◌, ◌≢◌, ℕ, ◌+◌, ◌-◌, ◌<◌, ◌≤◌, ◌++◌, Bool, false, List, MatchOption, Option, length, slice_index_or, take}
use Rattle.std.specs.List.{sum_by}
use Rattle.cut_core.specs.Cuts.{CutContent, cue_bits, span}

-- where cue i starts in the master
abbrev pub cue_start : CutContent → ℕ → ℕ
cue_start cut i = sum_by span (take i cut.splice.cues)

-- a cue covers this place of channel c, and the bit of the channel there isn't the cue's
pub record IsOffCue (cut : CutContent) (c : ℕ) (z : List Bool) (place : ℕ) : Type 0 where
  pub cue : ℕ
  pub cue_there : cue < length cut.splice.cues
  pub from : cue_start cut cue ≤ place
  pub to : place < cue_start cut cue + length (cue_bits cut c cue)
  pub differs : slice_index_or z place false ≢ slice_index_or (cue_bits cut c cue) (place - cue_start cut cue) false

-- cue i covers this place of channel c, a part of the channel after `done` bits reaches it, and the bit there isn't the
-- cue's
pub record IsOffAt (cut : CutContent) (c i done : ℕ) (part : List Bool) (place : ℕ) : Type 0 where
  pub reached : done ≤ place
  pub inside : place < done + length part
  pub from : cue_start cut i ≤ place
  pub to : place < cue_start cut i + length (cue_bits cut c i)
  pub differs : slice_index_or part (place - done) false ≢ slice_index_or (cue_bits cut c i) (place - cue_start cut i) false

-- the same for some cue
abbrev pub IsOffPart : CutContent → ℕ → ℕ → List Bool → ℕ → Type 0
IsOffPart cut c done part place = (i : ℕ) × (i < length cut.splice.cues) × IsOffAt cut c i done part place

-- P holds of a place and of none before it
pub record IsFirst (P : ℕ → Type 0) (place : ℕ) : Type 0 where
  pub here : P place
  pub before : (earlier : ℕ) → earlier < place → P earlier → ⊥

-- it is the first place that P holds of, or there is none
abbrev pub FindsFirst : (ℕ → Type 0) → Option ℕ → Type 0
FindsFirst P first = MatchOption first ((place : ℕ) → P place → ⊥) (IsFirst P)

-- the first place in what was read of a channel whose bit isn't that of the cue there, if there is one
abbrev pub FindsOff : CutContent → ℕ → List Bool → Option ℕ → Type 0
FindsOff cut c z first = FindsFirst (λ place. (place < length z) × IsOffCue cut c z place) first

-- with a part that follows `done` bits of a channel, `new` is the first place whose bit isn't that of the cue there, if
-- `first` is that in the bits before
abbrev pub FindsOffAfter : CutContent → ℕ → ℕ → List Bool → Option ℕ → Option ℕ → Type 0
FindsOffAfter cut c done part first new = (before : List Bool) → length before ≡ done → FindsOff cut c before first → FindsOff cut c (before ++ part) new

-- n bits of a part from a place on are those of a cue from another place on
abbrev pub AreSameBits : List Bool → ℕ → List Bool → ℕ → ℕ → Type 0
AreSameBits part at cue own n = (k : ℕ) → k < n → slice_index_or part (at + k) false ≡ slice_index_or cue (own + k) false
