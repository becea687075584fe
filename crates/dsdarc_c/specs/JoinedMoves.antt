-- What each call of a player of files that follow each other does: the player before it and after it, and what is returned.
use Rattle.std.specs.Prelude.{◌≡◌, ◌+◌, ◌<◌, ◌++◌, ℕ, List, [], Some, drop, length, min, take}
use Rattle.dsd_bits.specs.declared.sound.Sound.{Sound}
use Rattle.fir_core.specs.Decimator.{Decimator}
use Rattle.joined_core.specs.Givers.{Way, bits_way, frames_way}
use Rattle.native_core.specs.declared.layout.Layout.{Layout}
use Rattle.dsdarc_c.specs.Joined.{IfOwn, IsBeforeOwn, IsGoingOn, IsOfShape, joined_waiting, shape_by}
use Rattle.dsdarc_c.specs.JoinedCalls.{AcceptsEndAt, AcceptsNextAt, TakesJoined}
use Rattle.dsdarc_c.specs.JoinedWhole.{AddsOwn, EndsRecording, GaveFirst, PlaysJoined}
use Rattle.dsdarc_c.specs.Making.{StatesFilter}
use Rattle.dsdarc_c.specs.Whole.{HasAt}
use Rattle.dsdarc_c.specs.declared.bare.BareStage.TheVariants as stages
use Rattle.dsdarc_c.specs.declared.joined.Joined.{Joined}

-- whichever files the old player plays, the new one goes on with them
abbrev pub GoesOnJoined : Joined → Joined → List ℕ → Type 0
GoesOnJoined old new bytes = (way : Way) (before file pulled : List ℕ) → PlaysJoined way before file pulled old
    → HasAt file old.bare.place bytes → PlaysJoined way before file pulled new

-- the sound of a file is joined only if it has the rate and channels of those before, and ends on a whole byte
abbrev pub JoinsFitting : Joined → Joined → Type 0
JoinsFitting old new = IsBeforeOwn old.bare.stage → IfOwn new.bare.stage (IsOfShape old.shape)

-- a push took n of these bytes: the next byte is n further on, nothing changed if frames wait, and otherwise the player
-- goes on with the same files
pub record JoinedPushed (old new : Joined) (bytes : List ℕ) (n : ℕ) : Type 0 where
  pub takes : TakesJoined old bytes n
  pub place : new.bare.place ≡ old.bare.place + n
  pub waits : old.pulled < length old.pending.items → new ≡ old
  pub plays : GoesOnJoined old new bytes
  pub fits : JoinsFitting old new
  pub shape : new.shape ≡ old.shape

-- a pull gave the first n of the bytes that wait, as many as there are and as fit; they wait no more, and nothing else
-- changed; all that was pulled is a prefix of the frames of the recording that the files make
pub record JoinedPulled (old new : Joined) (out_old out_new : List ℕ) (n : ℕ) : Type 0 where
  pub count : n ≡ min (length out_old) (length (joined_waiting old))
  pub given : take n out_new ≡ take n (joined_waiting old)
  pub others : drop n out_new ≡ drop n out_old
  pub same : new ≡ record old { pulled = old.pulled + n }
  pub plays : (way : Way) (before file pulled : List ℕ) → PlaysJoined way before file pulled old → PlaysJoined way before file (pulled ++ take n out_new) new
  pub prefix : (way : Way) (before file pulled : List ℕ) → PlaysJoined way before file pulled old → GaveFirst way before file (pulled ++ take n out_new)

-- the file ended, and its sound is joined to those before, whichever file follows; what waits is left
pub record Followed (old new : Joined) : Type 0 where
  pub accepts : AcceptsNextAt old.stage old.bare
  pub place : new.bare.place ≡ 0
  pub waits : joined_waiting new ≡ joined_waiting old
  pub shape : new.shape ≡ old.shape
  pub plays : (way : Way) (before file pulled : List ℕ) → PlaysJoined way before file pulled old → length file ≡ old.bare.place
      → (own : List ℕ) × AddsOwn old.bare.stage file own × ((next : List ℕ) → PlaysJoined way (before ++ own) next pulled new)

-- the recording ended: all its frames were made
pub record JoinedEnded (old new : Joined) : Type 0 where
  pub accepts : AcceptsEndAt old.stage old.bare
  pub plays : (way : Way) (before file pulled : List ℕ) → PlaysJoined way before file pulled old → PlaysJoined way before file pulled new
  pub all : (way : Way) (before file pulled : List ℕ) → PlaysJoined way before file pulled old → length file ≡ old.bare.place → IsGoingOn old.stage
      → (own : List ℕ) × AddsOwn old.bare.stage file own × EndsRecording way (before ++ own) pulled new

-- it was chosen that the bits of the recording are given in this layout, from the first frame on
pub record IsJoinChosen (old new : Joined) (layout : Layout) : Type 0 where
  pub place : new.bare.place ≡ old.bare.place
  pub plays : (way : Way) (before file pulled : List ℕ) → PlaysJoined way before file pulled old
      → (sound : Sound) × (old.bare.stage ≡ stages.Open sound) × PlaysJoined (bits_way layout sound.channels) [] file [] new

-- a filter was chosen: the frames of the recording are given by it, from the first one on; what is reported of them is by
-- it as well
pub record IsFilteredBy (d : Decimator) (old new : Joined) : Type 0 where
  pub place : new.bare.place ≡ old.bare.place
  pub shape : (sound : Sound) × (old.bare.stage ≡ stages.Open sound) × (new.shape ≡ Some (shape_by d sound)) × (new.count ≡ sound.count)
  pub plays : (way : Way) (before file pulled : List ℕ) → PlaysJoined way before file pulled old
      → (sound : Sound) × (old.bare.stage ≡ stages.Open sound) × PlaysJoined (frames_way d sound.rate sound.channels) [] file [] new

-- the filter that the project text states was chosen
abbrev pub IsJoinFiltered : Joined → Joined → List ℕ → Type 0
IsJoinFiltered old new text = (d : Decimator) × StatesFilter text d × IsFilteredBy d old new
