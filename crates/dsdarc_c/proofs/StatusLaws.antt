-- What a status means.
use Rattle.std.proofs.Common.{◌≡◌, ℕ, ◌+◌, ◌<◌, ◌≤◌, inl, inr, List, [], length, Result, Ok, Err, IfOk, IfErr, IfSome, MatchResult, OnOk, ◌⊎◌, Some, ◌≢◌, subst, sym}
use Rattle.std.proofs.lemmas.Bool.{cases_lt}
use Rattle.dsdarc_c.specs.Calls.{EndRefused, Ended, GoesOnWith, PushRefused, Pushed, SeekRefused, Sought}
use Rattle.dsdarc_c.specs.Ending.{AcceptsEnd, RefusesEnd}
use Rattle.dsdarc_c.specs.Seeking.{GoesTo, RefusesSeek}
use Rattle.dsdarc_c.specs.Statuses.{StatusMeans, status_of}
use Rattle.dsdarc_c.specs.Taking.{RefusesPush, Takes}
use Rattle.dsdarc_c.specs.Whole.{EndsFile, PlaysPushedFile, WaitsWhole}
use Rattle.dsdarc_c.specs.declared.fault.PlayFault.{PlayFault}
use Rattle.dsdarc_c.specs.declared.fault.PlayFault.TheVariants as faults
use Rattle.dsdarc_c.specs.declared.pushing.Pushing.{Pushing}
use Rattle.dsdarc_c.specs.declared.pushing.Stage.TheVariants as stages

-- the status of an outcome means what holds of the outcome
pub means_outcome : {T : Type 0} (Done : Type 0) (Refused : PlayFault → Type 0) (status : ℕ) (r : Result T PlayFault) → MatchResult r (λ x. status ≡ 0) (λ fault. status ≡ status_of fault) → MatchResult r (λ x. Done) Refused → StatusMeans Done Refused status
means_outcome Done Refused status (Ok x) is done = inl (is, done)
means_outcome Done Refused status (Err fault) is refused = inr (fault, is, refused)

-- the same where a value goes to a place
pub means_with : {T : Type 0} (Done : T → Type 0) (Refused : PlayFault → Type 0) (status : ℕ) (old new : T) (r : Result T PlayFault) → MatchResult r (λ x. (status ≡ 0) × (new ≡ x)) (λ fault. (status ≡ status_of fault) × (new ≡ old))
    → MatchResult r Done Refused → StatusMeans (Done new) (λ fault. Refused fault × (new ≡ old)) status
means_with Done Refused status old new (Ok x) is done = inl (is.0, subst Done (sym is.1) done)
means_with Done Refused status old new (Err fault) is refused = inr (fault, is.0, (refused, is.1))

-- ---- the outcomes of a push, an end and a seek
pub push_outcome : (p new : Pushing) (bytes : List ℕ) (r : Result ℕ PlayFault) → IfOk r (Takes p bytes) → IfOk r (λ n. new.place ≡ p.place + n) → (p.pulled < length p.pending.items → (new ≡ p) × (r ≡ Ok 0))
    → (length p.pending.items ≤ p.pulled → IfOk r (λ n. new.stage ≢ stages.Failed)) → IfSome p.stated (λ s. new.stated ≡ Some s) → GoesOnWith p new bytes → new.taps ≡ p.taps
    → IfErr r (RefusesPush p bytes) → IfErr r (λ fault. new.stage ≡ stages.Failed) → (length p.pending.items ≤ p.pulled → p.stage ≡ stages.Failed → (new ≡ p) × (r ≡ Err faults.AfterFault)) → IfErr r (λ fault. new.stated ≡ p.stated)
    → (WaitsWhole p → WaitsWhole new) → MatchResult r (Pushed p new bytes) (PushRefused p new bytes)
push_outcome p new bytes (Ok n) takes place waits goes_on known plays taps why failed after as_before whole = record { takes = takes; place = place; waits = λ some. (waits some).0; goes_on = goes_on; known = known; plays = plays; whole = whole; taps = taps }
push_outcome p new bytes (Err fault) takes place waits goes_on known plays taps why failed after as_before whole = record {
  why = why;
  failed = failed;
  after_fault = λ before. elim (cases_lt p.pulled (length p.pending.items)) [
    | inl some ↦ (waits some).0
    | inr ready ↦ (after ready before).0
  ];
  known = as_before;
  plays = plays;
  whole = whole;
  taps = taps;
}

pub end_outcome : (p new : Pushing) (r : Result Unit PlayFault) → OnOk r (AcceptsEnd p) → MatchResult r (λ x. new ≡ p) (λ fault. new ≡ record p { stage = stages.Failed })
    → ((file : List ℕ) (start : ℕ) (pulled : List ℕ) → PlaysPushedFile file start pulled p → length file ≡ p.place → OnOk r (EndsFile file start pulled new)) → IfErr r (RefusesEnd p)
    → ((file : List ℕ) (start : ℕ) (pulled : List ℕ) → PlaysPushedFile file start pulled p → PlaysPushedFile file start pulled new) → MatchResult r (λ x. Ended p new) (EndRefused p new)
end_outcome p new (Ok x) accepts same all why plays = record { accepts = accepts; same = same; all = all }
end_outcome p new (Err fault) accepts same all why plays = record { why = why; same = same; plays = plays }

pub seek_outcome : (p new : Pushing) (frame : ℕ) (r : Result ℕ PlayFault) → IfOk r (GoesTo p frame) → IfOk r (λ offset. new.place ≡ offset) → IfOk r (λ offset. new.stage ≢ stages.Failed) → new.stated ≡ p.stated
    → ((file : List ℕ) (start : ℕ) (pulled : List ℕ) → PlaysPushedFile file start pulled p → MatchResult r (λ offset. PlaysPushedFile file frame [] new) (λ fault. PlaysPushedFile file start pulled new)) → new.taps ≡ p.taps
    → IfErr r (RefusesSeek p frame) → IfErr r (λ fault. (fault ≡ faults.Memory) ⊎ (new ≡ p)) → IfOk r (λ offset. WaitsWhole new) → (WaitsWhole p → WaitsWhole new)
    → MatchResult r (Sought p new frame) (SeekRefused p new frame)
seek_outcome p new frame (Ok offset) goes place goes_on known plays taps why same anew whole = record { goes = goes; place = place; goes_on = goes_on; known = known; plays = plays; whole = anew; taps = taps }
seek_outcome p new frame (Err fault) goes place goes_on known plays taps why same anew whole = record { why = why; same = same; known = known; plays = plays; whole = whole; taps = taps }
