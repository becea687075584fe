-- What a status of a player of files that follow each other means.
use Rattle.std.proofs.Common.{◌≡◌, ◌⊎◌, inl, inr, ℕ, ◌+◌, ◌<◌, List, [], ◌++◌, length, Some, Result, Ok, Err, IfOk, IfErr, MatchResult, OnOk}
use Rattle.dsd_bits.specs.declared.sound.Sound.{Sound}
use Rattle.fir_core.specs.Decimator.{Decimator}
use Rattle.joined_core.specs.Givers.{Way, bits_way, frames_way}
use Rattle.native_core.specs.declared.layout.Layout.{Layout}
use Rattle.dsdarc_c.specs.Joined.{IsGoingOn, joined_waiting, shape_by}
use Rattle.dsdarc_c.specs.JoinedCalls.{AcceptsEndAt, AcceptsNextAt, RefusesEndAt, RefusesJoined, RefusesJoinedChoice, RefusesJoinedFilter, RefusesJoinedText, RefusesNextAt, TakesJoined}
use Rattle.dsdarc_c.specs.JoinedMoves.{Followed, GoesOnJoined, IsFilteredBy, IsJoinChosen, IsJoinFiltered, JoinedEnded, JoinedPushed, JoinsFitting}
use Rattle.dsdarc_c.specs.JoinedWhole.{AddsOwn, EndsRecording, PlaysJoined}
use Rattle.dsdarc_c.specs.Making.{StatesFilter}
use Rattle.dsdarc_c.specs.Statuses.{StatusMeans}
use Rattle.dsdarc_c.specs.declared.bare.BareStage.TheVariants as stages
use Rattle.dsdarc_c.specs.declared.fault.PlayFault.{PlayFault}
use Rattle.dsdarc_c.specs.declared.joined.Joined.{Joined}

pub joined_push_outcome : (p new : Joined) (bytes : List ℕ) (r : Result ℕ PlayFault) → IfOk r (TakesJoined p bytes) → IfOk r (λ n. new.bare.place ≡ p.bare.place + n) → (p.pulled < length p.pending.items → (new ≡ p) × (r ≡ Ok 0)) → GoesOnJoined p new bytes → IfOk r (λ n. JoinsFitting p new) → new.shape ≡ p.shape
    → IfErr r (RefusesJoined p bytes) → MatchResult r (JoinedPushed p new bytes) (RefusesJoined p bytes)
joined_push_outcome p new bytes (Ok n) takes place waits plays fits shape why = record { takes = takes; place = place; waits = λ some. (waits some).0; plays = plays; fits = fits; shape = shape }
joined_push_outcome p new bytes (Err fault) takes place waits plays fits shape why = why

pub next_outcome : (p new : Joined) (r : Result Unit PlayFault) → OnOk r (AcceptsNextAt p.stage p.bare) → OnOk r (new.bare.place ≡ 0) → joined_waiting new ≡ joined_waiting p → new.shape ≡ p.shape
    → ((way : Way) (before file pulled : List ℕ) → PlaysJoined way before file pulled p → length file ≡ p.bare.place → OnOk r ((own : List ℕ) × AddsOwn p.bare.stage file own × ((next : List ℕ) → PlaysJoined way (before ++ own) next pulled new)))
    → IfErr r (RefusesNextAt p.stage p.bare) → MatchResult r (λ x. Followed p new) (RefusesNextAt p.stage p.bare)
next_outcome p new (Ok x) accepts place waits shape plays why = record { accepts = accepts; place = place; waits = waits; shape = shape; plays = plays }
next_outcome p new (Err fault) accepts place waits shape plays why = why

pub joined_end_outcome : (p new : Joined) (r : Result Unit PlayFault) → OnOk r (AcceptsEndAt p.stage p.bare) → ((way : Way) (before file pulled : List ℕ) → PlaysJoined way before file pulled p → PlaysJoined way before file pulled new)
    → ((way : Way) (before file pulled : List ℕ) → PlaysJoined way before file pulled p → length file ≡ p.bare.place → IsGoingOn p.stage → OnOk r ((own : List ℕ) × AddsOwn p.bare.stage file own × EndsRecording way (before ++ own) pulled new))
    → IfErr r (RefusesEndAt p.stage p.bare) → MatchResult r (λ x. JoinedEnded p new) (RefusesEndAt p.stage p.bare)
joined_end_outcome p new (Ok x) accepts plays all why = record { accepts = accepts; plays = plays; all = all }
joined_end_outcome p new (Err fault) accepts plays all why = why

pub join_outcome : (p new : Joined) (layout : Layout) (r : Result Unit PlayFault)
    → ((way : Way) (before file pulled : List ℕ) → PlaysJoined way before file pulled p → OnOk r ((sound : Sound) × (p.bare.stage ≡ stages.Open sound) × PlaysJoined (bits_way layout sound.channels) [] file [] new))
    → OnOk r (new.bare.place ≡ p.bare.place) → IfErr r (RefusesJoinedChoice p layout) → MatchResult r (λ x. IsJoinChosen p new layout) (RefusesJoinedChoice p layout)
join_outcome p new layout (Ok x) plays place why = record { place = place; plays = plays }
join_outcome p new layout (Err fault) plays place why = why

pub filter_joined_outcome : (p new : Joined) (d : Decimator) (r : Result Unit PlayFault)
    → ((way : Way) (before file pulled : List ℕ) → PlaysJoined way before file pulled p → OnOk r ((sound : Sound) × (p.bare.stage ≡ stages.Open sound) × PlaysJoined (frames_way d sound.rate sound.channels) [] file [] new))
    → OnOk r (new.bare.place ≡ p.bare.place) → OnOk r ((sound : Sound) × (p.bare.stage ≡ stages.Open sound) × (new.shape ≡ Some (shape_by d sound)) × (new.count ≡ sound.count))
    → IfErr r (RefusesJoinedFilter p d) → MatchResult r (λ x. IsFilteredBy d p new) (RefusesJoinedFilter p d)
filter_joined_outcome p new d (Ok x) plays place shape why = record { place = place; shape = shape; plays = plays }
filter_joined_outcome p new d (Err fault) plays place shape why = why

-- the filter is the one that the text states
pub text_outcome : (p new : Joined) (text : List ℕ) (d : Decimator) (status : ℕ) → StatesFilter text d → StatusMeans (IsFilteredBy d p new) (RefusesJoinedFilter p d) status → ((status ≡ 0) × IsJoinFiltered p new text) ⊎ RefusesJoinedText p text status
text_outcome p new text d status states (inl done) = inl (done.0, (d, states, done.1))
text_outcome p new text d status states (inr why) = inr (inr (d, states, why.0, why.1, why.2))
