-- What each call does: the player before it and after it, what is returned, and what a refusal leaves.
use Rattle.std.specs.Prelude.{◌≡◌, ◌≢◌, ◌⊎◌, ◌/◌, ◌+◌, ◌<◌, ◌≤◌, ◌++◌, ℕ, ℤ, List, [], Some, IfSome, drop, length, min, take}
use Rattle.dsdarc_c.specs.Ending.{AcceptsEnd, RefusesEnd}
use Rattle.dsdarc_c.specs.Numbers.{AreSamplesIn, AreWholeSamples, first_samples, sample_size}
use Rattle.dsdarc_c.specs.Pushing.{AreWholeFrames}
use Rattle.dsdarc_c.specs.Seeking.{GoesTo, RefusesSeek}
use Rattle.dsdarc_c.specs.Taking.{RefusesPush, Takes}
use Rattle.dsdarc_c.specs.Whole.{EndsFile, HasAt, IsPrefixOfFrames, PlaysPushedFile, WaitsWhole, waiting}
use Rattle.dsdarc_c.specs.declared.fault.PlayFault.{PlayFault}
use Rattle.dsdarc_c.specs.declared.fault.PlayFault.TheVariants as faults
use Rattle.dsdarc_c.specs.declared.pushing.Pushing.{Pushing}
use Rattle.dsdarc_c.specs.declared.pushing.Stage.TheVariants as stages

-- whichever file the old player plays, and from whichever frame on, the new one goes on with it after these bytes
abbrev pub GoesOnWith : Pushing → Pushing → List ℕ → Type 0
GoesOnWith old new bytes = (file : List ℕ) (start : ℕ) (pulled : List ℕ) → PlaysPushedFile file start pulled old
    → HasAt file old.place bytes → PlaysPushedFile file start pulled new

-- a push took n of these bytes: the next byte is n further on, nothing changed if frames wait, and otherwise the player
-- goes on; a sound that was known is known
pub record Pushed (old new : Pushing) (bytes : List ℕ) (n : ℕ) : Type 0 where
  pub takes : Takes old bytes n
  pub place : new.place ≡ old.place + n
  pub waits : old.pulled < length old.pending.items → new ≡ old
  pub goes_on : length old.pending.items ≤ old.pulled → new.stage ≢ stages.Failed
  pub known : IfSome old.stated (λ s. new.stated ≡ Some s)
  pub plays : GoesOnWith old new bytes
  pub whole : WaitsWhole old → WaitsWhole new
  pub taps : new.taps ≡ old.taps

-- a push of these bytes was refused for this fault: so is each that follows once no frame waits; what is known of the
-- sound stays
pub record PushRefused (old new : Pushing) (bytes : List ℕ) (fault : PlayFault) : Type 0 where
  pub why : RefusesPush old bytes fault
  pub failed : new.stage ≡ stages.Failed
  pub after_fault : old.stage ≡ stages.Failed → new ≡ old
  pub known : new.stated ≡ old.stated
  pub plays : GoesOnWith old new bytes
  pub whole : WaitsWhole old → WaitsWhole new
  pub taps : new.taps ≡ old.taps

-- these bytes are the next that were pulled of each file that the old player plays, and the new one goes on after them;
-- all that was pulled is a prefix of the file's frames
pub record Gives (old new : Pushing) (bytes : List ℕ) : Type 0 where
  pub plays : (file : List ℕ) (start : ℕ) (pulled : List ℕ) → PlaysPushedFile file start pulled old → PlaysPushedFile file start (pulled ++ bytes) new
  pub prefix : (file : List ℕ) (start : ℕ) (pulled : List ℕ) → PlaysPushedFile file start pulled old → IsPrefixOfFrames old.taps file start (pulled ++ bytes)

-- a pull gave the first n of the bytes that wait, as many as there are and as fit; they wait no more, and nothing else
-- changed; if whole frames wait and fit, whole frames were given and wait on
pub record Pulled (old new : Pushing) (out_old out_new : List ℕ) (n : ℕ) : Type 0 where
  pub count : n ≡ min (length out_old) (length (waiting old))
  pub given : take n out_new ≡ take n (waiting old)
  pub others : drop n out_new ≡ drop n out_old
  pub left : waiting old ≡ take n out_new ++ waiting new
  pub same : new ≡ record old { pulled = old.pulled + n }
  pub gives : Gives old new (take n out_new)
  pub whole : WaitsWhole old → AreWholeFrames old.taps old.stated (length out_old) → AreWholeFrames old.taps old.stated n × WaitsWhole new

-- a pull gave n numbers, as many as fit of those that wait whole: the samples that the first of the waiting bytes hold;
-- these bytes wait no more, and nothing else changed; if whole frames wait and fit, whole frames were given and wait on
pub record PulledNumbers (old new : Pushing) (out_old out_new : List ℤ) (n : ℕ) : Type 0 where
  pub count : n ≡ min (length out_old) (length (waiting old) / (old.taps.width / 8))
  pub given : AreSamplesIn old.taps.width (first_samples old n) (take n out_new)
  pub others : drop n out_new ≡ drop n out_old
  pub same : new ≡ record old { pulled = old.pulled + sample_size old n }
  pub gives : Gives old new (first_samples old n)
  pub whole : WaitsWhole old → AreWholeSamples old.stated (length out_old) → AreWholeSamples old.stated n × WaitsWhole new

-- an end was accepted: nothing changed, and of a file that ends here all frames were made
pub record Ended (old new : Pushing) : Type 0 where
  pub accepts : AcceptsEnd old
  pub same : new ≡ old
  pub all : (file : List ℕ) (start : ℕ) (pulled : List ℕ) → PlaysPushedFile file start pulled old → length file ≡ old.place → EndsFile file start pulled new

-- an end was refused for this fault: what waits is left, and each push, seek and end that follows is refused
pub record EndRefused (old new : Pushing) (fault : PlayFault) : Type 0 where
  pub why : RefusesEnd old fault
  pub same : new ≡ record old { stage = stages.Failed }
  pub plays : (file : List ℕ) (start : ℕ) (pulled : List ℕ) → PlaysPushedFile file start pulled old → PlaysPushedFile file start pulled new

-- a seek went to this frame: the file is pushed on from this place, and plays from this frame on; what is known of the
-- sound stays, and what waits are whole frames
pub record Sought (old new : Pushing) (frame offset : ℕ) : Type 0 where
  pub goes : GoesTo old frame offset
  pub place : new.place ≡ offset
  pub goes_on : new.stage ≢ stages.Failed
  pub known : new.stated ≡ old.stated
  pub plays : (file : List ℕ) (start : ℕ) (pulled : List ℕ) → PlaysPushedFile file start pulled old → PlaysPushedFile file frame [] new
  pub whole : WaitsWhole new
  pub taps : new.taps ≡ old.taps

-- a seek was refused for this fault: nothing changed, unless memory ran out; what is known of the sound stays
pub record SeekRefused (old new : Pushing) (frame : ℕ) (fault : PlayFault) : Type 0 where
  pub why : RefusesSeek old frame fault
  pub same : (fault ≡ faults.Memory) ⊎ (new ≡ old)
  pub known : new.stated ≡ old.stated
  pub plays : (file : List ℕ) (start : ℕ) (pulled : List ℕ) → PlaysPushedFile file start pulled old → PlaysPushedFile file start pulled new
  pub whole : WaitsWhole old → WaitsWhole new
  pub taps : new.taps ≡ old.taps
