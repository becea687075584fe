-- What each call of a player without a filter does: the player before it and after it, and what is returned.
use Rattle.std.specs.Prelude.{◌≡◌, ◌≢◌, ◌⊎◌, ◌+◌, ◌<◌, ◌++◌, ℕ, List, [], drop, length, min, take}
use Rattle.fir_core.specs.Decimator.{Decimator}
use Rattle.native_core.specs.declared.layout.Layout.{Layout}
use Rattle.dsdarc_c.specs.Bare.{bare_waiting}
use Rattle.dsdarc_c.specs.BareCalls.{AcceptsBareEnd, GoesToBits, RefusesChoice, RefusesFilter, TakesBare}
use Rattle.dsdarc_c.specs.BareWhole.{EndsBits, IsPrefixOfBits, PlaysBits}
use Rattle.dsdarc_c.specs.Making.{IsStatusOfProject, StatesFilter}
use Rattle.dsdarc_c.specs.Statuses.{status_of}
use Rattle.dsdarc_c.specs.Whole.{HasAt, PlaysPushedFile}
use Rattle.dsdarc_c.specs.declared.bare.Bare.{Bare}
use Rattle.dsdarc_c.specs.declared.bare.BareStage.TheVariants as stages
use Rattle.dsdarc_c.specs.declared.fault.PlayFault.{PlayFault}
use Rattle.dsdarc_c.specs.declared.pushing.Pushing.{Pushing}

-- a push took n of these bytes: the next byte is n further on, nothing changed if frames wait, and whichever file the
-- player plays, it goes on with it after these bytes
pub record BarePushed (old new : Bare) (bytes : List ℕ) (n : ℕ) : Type 0 where
  pub takes : TakesBare old bytes n
  pub place : new.place ≡ old.place + n
  pub waits : old.pulled < length old.pending.items → new ≡ old
  pub plays : (file : List ℕ) (start : ℕ) (pulled : List ℕ) → PlaysBits file start pulled old → HasAt file old.place bytes → PlaysBits file start pulled new
  pub layout : new.layout ≡ old.layout

-- a pull gave the first n of the bytes that wait, as many as there are and as fit; they wait no more, and nothing else
-- changed; all that was pulled of a file is a prefix of its frames
pub record BarePulled (old new : Bare) (out_old out_new : List ℕ) (n : ℕ) : Type 0 where
  pub count : n ≡ min (length out_old) (length (bare_waiting old))
  pub given : take n out_new ≡ take n (bare_waiting old)
  pub others : drop n out_new ≡ drop n out_old
  pub same : new ≡ record old { pulled = old.pulled + n }
  pub plays : (file : List ℕ) (start : ℕ) (pulled : List ℕ) → PlaysBits file start pulled old → PlaysBits file start (pulled ++ take n out_new) new
  pub prefix : (file : List ℕ) (start : ℕ) (pulled : List ℕ) → PlaysBits file start pulled old → IsPrefixOfBits old.layout file start (pulled ++ take n out_new)

-- an end was accepted: nothing changed, and of a file that ends here all frames were made
pub record BareEnded (old new : Bare) : Type 0 where
  pub accepts : AcceptsBareEnd old
  pub same : new ≡ old
  pub all : (file : List ℕ) (start : ℕ) (pulled : List ℕ) → PlaysBits file start pulled old → length file ≡ old.place → EndsBits file start pulled new

-- a seek went to this frame: the file is pushed on from this place, and plays from this frame on
pub record BareSought (old new : Bare) (frame offset : ℕ) : Type 0 where
  pub goes : GoesToBits old frame offset
  pub place : new.place ≡ offset
  pub goes_on : new.stage ≢ stages.Failed
  pub plays : (file : List ℕ) (start : ℕ) (pulled : List ℕ) → PlaysBits file start pulled old → PlaysBits file frame [] new
  pub layout : new.layout ≡ old.layout

-- it was chosen that bits are given in this layout, from the first frame on
pub record IsChosenNow (old new : Bare) (layout : Layout) : Type 0 where
  pub layout_is : new.layout ≡ layout
  pub place : new.place ≡ old.place
  pub goes_on : new.stage ≢ stages.Failed
  pub plays : (file : List ℕ) (start : ℕ) (pulled : List ℕ) → PlaysBits file start pulled old → PlaysBits file 0 [] new

-- a player with the filter that the project text states goes on with the file, from the first frame on
pub record IsFiltered (old : Bare) (text : List ℕ) (new : Pushing) : Type 0 where
  pub filter : StatesFilter text new.taps
  pub place : new.place ≡ old.place
  pub plays : (file : List ℕ) (start : ℕ) (pulled : List ℕ) → PlaysBits file start pulled old → PlaysPushedFile file 0 [] new

-- no player with the filter of the project text is made: for the text, or because the filter is refused
abbrev pub RefusesFiltered : Bare → List ℕ → ℕ → Type 0
RefusesFiltered old text status =
    (IsStatusOfProject text status × (status ≢ 0)) ⊎ ((d : Decimator) × (fault : PlayFault) × (status ≡ status_of fault) × RefusesFilter old d fault)

-- a layout isn't chosen: this is the status that says why
abbrev pub RefusesLayout : Bare → Layout → ℕ → Type 0
RefusesLayout old layout status = (fault : PlayFault) × (status ≡ status_of fault) × RefusesChoice old layout fault
