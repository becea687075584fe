-- The null test of files in memory: which masters are accepted, and why others are rejected or refused.
use Rattle.std.specs.Prelude.{◌≡◌, ◌≢◌, ℕ, ◌<◌, List, [], length, slice_index_or, MatchResult, Result, Ok, Err, Vec, ⊤}
use Rattle.std.specs.declared.alloc.Global.{Global}
use Rattle.std.specs.List.{AllZip}
use Rattle.dsd_bits.specs.Contents.{Content}
use Rattle.form_core.specs.Forms.{HoldsSome}
use Rattle.form_core.specs.Opening.{opened_of}
use Rattle.form_core.specs.declared.fault.ReadFault.{ReadFault}
use Rattle.project_core.specs.declared.fault.ProjectFault.{ProjectFault}
use Rattle.project_core.specs.declared.fault.ProjectFault.TheVariants as texts
use Rattle.clip_core.specs.Mixes.{MixContent}
use Rattle.mix_core.specs.Meaning.{IsMix}
use Rattle.mix_core.specs.ReadingMix.{mix_at}
use Rattle.cut_core.specs.declared.excerpts.Excerpts.{Excerpts}
use Rattle.null_core.specs.declared.fault.MixedFault.{MixedFault}
use Rattle.null_core.specs.declared.fault.MixedFault.TheVariants as takes
use Rattle.null_core.specs.declared.fault.NullFault.{NullFault}
use Rattle.null_core.specs.declared.fault.NullFault.TheVariants.{Mix, TakeNumber, TakeUnread, TakeMismatch, ClipOutside, ClipGains, Memory}
use Rattle.null_core.specs.declared.verdict.Heard.{Heard}
use Rattle.null_core.specs.declared.verdict.Verdict.{Verdict}
use Rattle.null_core.specs.declared.verdict.Verdict.TheVariants.{Accepted, MasterShape, MasterLength, TooLoud, Residual}
use Rattle.null_core.specs.Asking.{IsQuiet, NullsAll}
use Rattle.null_core.specs.Files.{HoldsExcerpts}
use Rattle.null_core.specs.Fitting.{IsFaultOf, ShapesFit, shapes_of}
use Rattle.null_core.specs.Holding.{AreExcerpts}
use Rattle.null_core.specs.Reading.{IsReadOf, MixedContent}
use Rattle.null_core.specs.Verdicts.{IsGreatestOfAll, IsVerdict, stretch_lists}

-- the text states the mix, and there are as many files as takes, each of which holds its take
pub record AreRead (text : List ℕ) (files : List (List ℕ)) (mix : MixContent) (takes : List Content) : Type 0 where
  pub says : IsMix text mix
  pub as_many : length files ≡ length mix.takes
  pub held : AllZip HoldsSome files takes

-- the same, and the takes fit the mix
pub record AreMixed (text : List ℕ) (files : List (List ℕ)) (mix : MixContent) (takes : List Content) : Type 0 where
  pub read : AreRead text files mix takes
  pub fit : ShapesFit mix (shapes_of takes)

-- ---- verdicts
-- the file of a master holds a recording, and this is what is heard of it; or it holds none, for this fault, its first
abbrev pub IsHeardIn : MixContent → List Content → List ℕ → Result Heard ReadFault → Type 0
IsHeardIn mix takes master (Ok heard) = (r : Content) × HoldsSome master r × IsVerdict mix takes r (stretch_lists heard) heard.verdict
IsHeardIn mix takes master (Err fault) = opened_of master ≡ Err fault

-- there are a mix and takes that fit it, and this is what is heard of the master
pub record NullTests (text : List ℕ) (files : List (List ℕ)) (master : List ℕ) (heard : Result Heard ReadFault) : Type 0 where
  pub mix : MixContent
  pub takes : List Content
  pub mixed : AreMixed text files mix takes
  pub is_heard : IsHeardIn mix takes master heard

-- there are a mix and takes that fit it, and the master's file holds a recording in which no place is too loud, which
-- nulls to the mix's limit, and has this greatest residual
pub record Accepts (text : List ℕ) (files : List (List ℕ)) (master : List ℕ) (residual : ℕ) : Type 0 where
  pub mix : MixContent
  pub takes : List Content
  pub mixed : AreMixed text files mix takes
  pub recording : Content
  pub master_holds : HoldsSome master recording
  pub quiet : IsQuiet mix takes recording
  pub nulls : NullsAll mix takes recording mix.limit
  pub greatest : IsGreatestOfAll mix takes recording residual

-- P holds of the greatest residual, if the verdict is that the master is accepted
abbrev pub OnAccepted : Verdict → (ℕ → Type 0) → Type 0
OnAccepted (Accepted residual) P = P residual
OnAccepted (MasterShape found wanted) P = ⊤
OnAccepted (MasterLength found wanted) P = ⊤
OnAccepted (TooLoud channel place) P = ⊤
OnAccepted (Residual channel place) P = ⊤

-- the same of what a call returned
abbrev pub IfAccepted : Result (Result Heard ReadFault) NullFault → (ℕ → Type 0) → Type 0
IfAccepted (Ok (Ok heard)) P = OnAccepted heard.verdict P
IfAccepted (Ok (Err fault)) P = ⊤
IfAccepted (Err fault) P = ⊤

-- the master is accepted with this greatest residual
abbrev pub IsAcceptedAt : ℕ → Result Heard ReadFault → Type 0
IsAcceptedAt residual (Ok heard) = heard.verdict ≡ Accepted residual
IsAcceptedAt residual (Err fault) = ⊥

-- the same of what a call returned, unless memory ran out
abbrev pub AnswersAccepted : Result (Result Heard ReadFault) NullFault → ℕ → Type 0
AnswersAccepted result residual = MatchResult result (IsAcceptedAt residual) (λ fault. fault ≡ Memory)

-- ---- faults
-- a text's fault as a fault of the null test
abbrev pub fault_of_text : ProjectFault → NullFault
fault_of_text texts.Memory = Memory
fault_of_text fault = Mix fault

-- a fault of takes that don't fit as a fault of the null test
abbrev pub fault_of_mixed : MixedFault → NullFault
fault_of_mixed (takes.TakeMismatch number) = TakeMismatch number
fault_of_mixed (takes.ClipOutside i) = ClipOutside i
fault_of_mixed (takes.ClipGains i) = ClipGains i
fault_of_mixed takes.Memory = Memory

-- the file of a number; past the last one an empty file
abbrev pub file_at : List (List ℕ) → ℕ → List ℕ
file_at files number = slice_index_or files number []

-- the file of a number holds no recording, for this fault, its first; each file before it holds one
pub record IsFirstUnread (files : List (List ℕ)) (number : ℕ) (fault : ReadFault) : Type 0 where
  pub there : number < length files
  pub before : (earlier : ℕ) → earlier < number → (r : Content) × HoldsSome (file_at files earlier) r
  pub first : opened_of (file_at files number) ≡ Err fault

-- memory ran out, or this is the first fault of files of takes
abbrev pub IsTakeFault : List (List ℕ) → NullFault → Type 0
IsTakeFault files Memory = ⊤
IsTakeFault files (TakeUnread number fault) = IsFirstUnread files number fault
IsTakeFault files _ = ⊥

-- the text states a mix with as many takes as there are files, and the file of a number is the first that holds none
pub record IsUnreadTake (text : List ℕ) (files : List (List ℕ)) (number : ℕ) (fault : ReadFault) : Type 0 where
  pub mix : MixContent
  pub says : IsMix text mix
  pub as_many : length files ≡ length mix.takes
  pub unread : IsFirstUnread files number fault

-- the text states a mix with another number of takes than there are files
pub record AreOtherNumber (text : List ℕ) (files : List (List ℕ)) : Type 0 where
  pub mix : MixContent
  pub says : IsMix text mix
  pub other : length files ≢ length mix.takes

-- the takes don't fit the mix that the text states, and this is their first fault
pub record IsMisfitOf (text : List ℕ) (files : List (List ℕ)) (fault : MixedFault) : Type 0 where
  pub mix : MixContent
  pub takes : List Content
  pub read : AreRead text files mix takes
  pub fault_is : IsFaultOf mix (shapes_of takes) fault

-- memory ran out, or this is the first fault of a mix text and the files of its takes
abbrev pub IsNullFault : List ℕ → List (List ℕ) → NullFault → Type 0
IsNullFault text files Memory = ⊤
IsNullFault text files (Mix fault) = mix_at text ≡ Err fault
IsNullFault text files TakeNumber = AreOtherNumber text files
IsNullFault text files (TakeUnread number fault) = IsUnreadTake text files number fault
IsNullFault text files (TakeMismatch number) = IsMisfitOf text files (takes.TakeMismatch number)
IsNullFault text files (ClipOutside i) = IsMisfitOf text files (takes.ClipOutside i)
IsNullFault text files (ClipGains i) = IsMisfitOf text files (takes.ClipGains i)

-- ---- step by step
-- this was read of the file of the take of a number; or it holds no recording; or memory ran out
abbrev pub ReadsTake : MixContent → ℕ → List ℕ → Result Excerpts NullFault → Type 0
ReadsTake mix number file (Ok h) = HoldsExcerpts mix number file h
ReadsTake mix number file (Err Memory) = ⊤
ReadsTake mix number file (Err (TakeUnread other fault)) = (other ≡ number) × (opened_of file ≡ Err fault)
ReadsTake mix number file (Err _) = ⊥

-- the text states a mix, the files hold takes that fit it, and this is the mix with what it reads of them
pub record IsMixedFrom (text : List ℕ) (files : List (List ℕ)) (mixed : MixedContent) : Type 0 where
  pub takes : List Content
  pub from : AreMixed text files mixed.mix takes
  pub read : IsReadOf mixed takes

-- this was read of takes that files hold
pub record ReadsTakes (mix : MixContent) (files : List (List ℕ)) (hs : Vec Excerpts Global) : Type 0 where
  pub takes : List Content
  pub held : AllZip HoldsSome files takes
  pub excerpts : AreExcerpts mix takes hs.items
