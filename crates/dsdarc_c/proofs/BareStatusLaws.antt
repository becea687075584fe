-- What a status of a player without a filter means.
use Rattle.std.proofs.Common.{◌≡◌, ◌≢◌, inr, ℕ, ◌+◌, ◌<◌, List, [], length, Result, Ok, Err, IfOk, IfErr, MatchResult, OnOk, sym, subst}
use Rattle.fir_core.specs.Decimator.{Decimator}
use Rattle.native_core.specs.declared.layout.Layout.{Layout}
use Rattle.dsdarc_c.specs.BareCalls.{AcceptsBareEnd, GoesToBits, RefusesBare, RefusesBareEnd, RefusesBareSeek, RefusesChoice, RefusesFilter, TakesBare}
use Rattle.dsdarc_c.specs.BareMoves.{BareEnded, BarePushed, BareSought, IsChosenNow, IsFiltered, RefusesFiltered}
use Rattle.dsdarc_c.specs.BareWhole.{EndsBits, PlaysBits}
use Rattle.dsdarc_c.specs.Making.{StatesFilter}
use Rattle.dsdarc_c.specs.Statuses.{status_of}
use Rattle.dsdarc_c.specs.Whole.{HasAt, PlaysPushedFile}
use Rattle.dsdarc_c.specs.declared.bare.Bare.{Bare}
use Rattle.dsdarc_c.specs.declared.bare.BareStage.TheVariants as stages
use Rattle.dsdarc_c.specs.declared.fault.PlayFault.{PlayFault}
use Rattle.dsdarc_c.specs.declared.pushing.Pushing.{Pushing}

pub bare_push_outcome : (p new : Bare) (bytes : List ℕ) (r : Result ℕ PlayFault) → IfOk r (TakesBare p bytes) → IfOk r (λ n. new.place ≡ p.place + n) → (p.pulled < length p.pending.items → (new ≡ p) × (r ≡ Ok 0))
    → ((file : List ℕ) (start : ℕ) (pulled : List ℕ) → PlaysBits file start pulled p → HasAt file p.place bytes → PlaysBits file start pulled new) → new.layout ≡ p.layout → IfErr r (RefusesBare p bytes) → MatchResult r (BarePushed p new bytes) (RefusesBare p bytes)
bare_push_outcome p new bytes (Ok n) takes place waits plays layout why = record { takes = takes; place = place; waits = λ some. (waits some).0; plays = plays; layout = layout }
bare_push_outcome p new bytes (Err fault) takes place waits plays layout why = why

pub bare_end_outcome : (p new : Bare) (r : Result Unit PlayFault) → OnOk r (AcceptsBareEnd p) → OnOk r (new ≡ p) → ((file : List ℕ) (start : ℕ) (pulled : List ℕ) → PlaysBits file start pulled p → length file ≡ p.place → OnOk r (EndsBits file start pulled new)) → IfErr r (RefusesBareEnd p)
    → MatchResult r (λ x. BareEnded p new) (RefusesBareEnd p)
bare_end_outcome p new (Ok x) accepts same all why = record { accepts = accepts; same = same; all = all }
bare_end_outcome p new (Err fault) accepts same all why = why

pub bare_seek_outcome : (p new : Bare) (frame : ℕ) (r : Result ℕ PlayFault) → IfOk r (GoesToBits p frame) → IfOk r (λ offset. new.place ≡ offset) → IfOk r (λ offset. new.stage ≢ stages.Failed)
    → ((file : List ℕ) (start : ℕ) (pulled : List ℕ) → PlaysBits file start pulled p → MatchResult r (λ offset. PlaysBits file frame [] new) (λ fault. PlaysBits file start pulled new)) → new.layout ≡ p.layout → IfErr r (RefusesBareSeek p frame) → MatchResult r (BareSought p new frame) (RefusesBareSeek p frame)
bare_seek_outcome p new frame (Ok offset) goes place goes_on plays layout why = record { goes = goes; place = place; goes_on = goes_on; plays = plays; layout = layout }
bare_seek_outcome p new frame (Err fault) goes place goes_on plays layout why = why

pub choose_outcome : (p new : Bare) (layout : Layout) (r : Result Unit PlayFault) → ((file : List ℕ) (start : ℕ) (pulled : List ℕ) → PlaysBits file start pulled p → OnOk r (PlaysBits file 0 [] new)) → OnOk r ((new.layout ≡ layout) × (new.place ≡ p.place) × (new.stated ≡ p.stated)) → OnOk r (new.stage ≢ stages.Failed) → IfErr r (RefusesChoice p layout)
    → MatchResult r (λ x. IsChosenNow p new layout) (RefusesChoice p layout)
choose_outcome p new layout (Ok x) plays chosen goes_on why = record { layout_is = chosen.0; place = chosen.1; goes_on = goes_on; plays = plays }
choose_outcome p new layout (Err fault) plays chosen goes_on why = why

-- what an answer reports, and why there is none
pub either_is : {T : Type 0} (P : T → Type 0) (Q : PlayFault → Type 0) (r : Result T PlayFault) → IfOk r P → IfErr r Q → MatchResult r P Q
either_is P Q (Ok x) ok err = ok
either_is P Q (Err e) ok err = err

-- ---- the outcome of a choice of a filter
pub filter_outcome : (p : Bare) (text : List ℕ) (d : Decimator) (made : Result Pushing PlayFault) (r : Result Pushing ℕ) → StatesFilter text d → ((file : List ℕ) (start : ℕ) (pulled : List ℕ) → PlaysBits file start pulled p → IfOk made (PlaysPushedFile file 0 []))
    → IfOk made (λ new. (new.taps ≡ d) × (new.place ≡ p.place)) → IfErr made (RefusesFilter p d) → IfOk r (λ new. made ≡ Ok new) → IfErr r (λ status. (fault : PlayFault) × (made ≡ Err fault) × (status ≡ status_of fault)) → MatchResult r (IsFiltered p text) (RefusesFiltered p text)
filter_outcome p text d made (Ok new) states plays is why same fault =
    let is_new = subst (λ m. IfOk m (λ q. (q.taps ≡ d) × (q.place ≡ p.place))) same is in
    record {
      filter = subst (StatesFilter text) (sym is_new.0) states;
      place = is_new.1;
      plays = λ file start pulled playing. subst (λ m. IfOk m (PlaysPushedFile file 0 [])) same (plays file start pulled playing);
    }
filter_outcome p text d made (Err status) states plays is why same (fault, failed, status_is) = inr (d, fault, status_is, subst (λ m. IfErr m (RefusesFilter p d)) failed why)
