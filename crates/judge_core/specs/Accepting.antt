-- Which masters and certificates are accepted, and why others are rejected.
use Rattle.std.specs.Prelude.{◌≡◌, ℕ, ◌⊎◌, List, MatchResult, None, Option, Result, Ok, Err}
use Rattle.dsd_bits.specs.Contents.{Content}
use Rattle.form_core.specs.declared.form.Form.{Form}
use Rattle.form_core.specs.Forms.{HoldsAs}
use Rattle.form_core.specs.declared.fault.ReadFault.{ReadFault}
use Rattle.cert_core.specs.Readers.{IfLeft}
use Rattle.cert_core.specs.declared.reader.CertReader.{CertReader}
use Rattle.cert_core.specs.declared.verdict.CheckFault.{CheckFault}
use Rattle.cert_core.specs.declared.verdict.CheckFault.TheVariants as certs
use Rattle.cut_core.specs.Cuts.{CutContent}
use Rattle.request_core.specs.declared.reason.Reason.{Reason}
use Rattle.request_core.specs.declared.reason.Reason.TheVariants.{MasterUnread}
use Rattle.judge_core.specs.declared.verdict.Verdict.{Verdict}
use Rattle.judge_core.specs.declared.verdict.Verdict.TheVariants.{Accepted, Rejected}
use Rattle.cut_core.specs.Masters.{IsMasterOf, IsTitled, AreLeastChannels, AreMasterChannels, CostLeast, total_cost}
use Rattle.judge_core.specs.Checking.{IsFirstAgainst}
use Rattle.cut_core.specs.Claims.{IsCertOf, windows_total}
use Rattle.judge_core.specs.Finding.{IsFoundHeld, IsFoundIn, IsRefusedFor}
use Rattle.judge_core.specs.declared.finding.Found.{Found}
use Rattle.sound_core.specs.declared.fault.StreamFault.TheVariants.{ReadFailed}
use Rattle.request_core.specs.declared.fault.Fault.{Fault}
use Rattle.request_core.specs.declared.fault.Fault.TheVariants.{Stream, Memory}
use Rattle.request_core.specs.Cutting.{SaysCut}

-- the file holds a master of the project and the takes, the certificate shows each of its bridges to be least, and this
-- is their total cost
pub record Accepts (project : List ℕ) (files : List (List ℕ)) (master cert : List ℕ) (cost : ℕ) : Type 0 where
  pub cut : CutContent
  pub says : SaysCut project files None cut
  pub form : Form
  pub recording : Content
  pub master_holds : HoldsAs master form recording
  pub is_master : IsMasterOf cut form recording
  pub shown : IsCertOf cut recording.channels cert
  pub cost_is : cost ≡ total_cost cut recording.channels

-- a file is a master of a project and takes: it holds the cues and some bridges, at the takes' rate, with the titles'
-- marks if its form has marks
pub record IsMaster (project : List ℕ) (files : List (List ℕ)) (file : List ℕ) : Type 0 where
  pub cut : CutContent
  pub says : SaysCut project files None cut
  pub form : Form
  pub recording : Content
  pub file_holds : HoldsAs file form recording
  pub same_rate : recording.rate ≡ cut.first.rate
  pub made : AreMasterChannels cut recording.channels
  pub titled : IsTitled cut form recording

-- the file is a master of the project and takes, and none of its bridges could cost less
pub record IsLeastMaster (project : List ℕ) (files : List (List ℕ)) (file : List ℕ) : Type 0 where
  pub cut : CutContent
  pub says : SaysCut project files None cut
  pub form : Form
  pub recording : Content
  pub file_holds : HoldsAs file form recording
  pub least : AreLeastChannels cut recording.channels

-- no master of a project and takes costs less: the channels that the file holds are those of a master, read whole they
-- have this cost, and those of no other master have a smaller one
pub record CostsLeast (project : List ℕ) (files : List (List ℕ)) (file : List ℕ) (cost : ℕ) : Type 0 where
  pub cut : CutContent
  pub says : SaysCut project files None cut
  pub form : Form
  pub recording : Content
  pub file_holds : HoldsAs file form recording
  pub made : AreMasterChannels cut recording.channels
  pub least : CostLeast cut recording.channels cost

-- the sum over all bridges of a master, by rising cue and then by rising channel, of what its bits there cost over
-- their windows
pub record CostsWindows (project : List ℕ) (files : List (List ℕ)) (file : List ℕ) (cost : ℕ) : Type 0 where
  pub cut : CutContent
  pub says : SaysCut project files None cut
  pub form : Form
  pub recording : Content
  pub file_holds : HoldsAs file form recording
  pub cost_is : cost ≡ windows_total cut recording.channels

-- there is a cut, and this is the first reason against the master: the file isn't of any form, for this fault, its
-- first; or something is wrong with its recording or its certificate
pub record RejectsFirst (project : List ℕ) (files : List (List ℕ)) (master cert : List ℕ) (reason : Reason) : Type 0 where
  pub cut : CutContent
  pub says : SaysCut project files None cut
  pub stands : ((fault : ReadFault) × (reason ≡ MasterUnread fault) × IsRefusedFor master fault)
      ⊎ ((form : Form) × (r : Content) × HoldsAs master form r × IsFirstAgainst cut form r cert reason)

-- P holds of the cost, if the master was accepted
abbrev pub IfMasterAccepted : Result Verdict Fault → (ℕ → Type 0) → Type 0
IfMasterAccepted (Ok (Accepted cost)) P = P cost
IfMasterAccepted (Ok (Rejected reason)) P = Unit {0}
IfMasterAccepted (Err fault) P = Unit {0}

-- P holds of the reason, if it was rejected
abbrev pub IfMasterRejected : Result Verdict Fault → (Reason → Type 0) → Type 0
IfMasterRejected (Ok (Accepted cost)) P = Unit {0}
IfMasterRejected (Ok (Rejected reason)) P = P reason
IfMasterRejected (Err fault) P = Unit {0}

-- it was accepted at this cost
abbrev pub IsAcceptedAt : ℕ → Verdict → Type 0
IsAcceptedAt cost (Accepted total) = total ≡ cost
IsAcceptedAt cost (Rejected reason) = ⊥

-- it was accepted at this cost, unless memory ran out
abbrev pub AnswersAccepted : Result Verdict Fault → ℕ → Type 0
AnswersAccepted result cost = MatchResult result (IsAcceptedAt cost) (λ fault. fault ≡ Memory)

-- it was accepted at this cost, unless memory ran out or a read of the certificate failed
abbrev pub ReadsAccepted : Result Verdict Fault → ℕ → Type 0
ReadsAccepted result cost = MatchResult result (IsAcceptedAt cost) (λ fault. (fault ≡ Stream ReadFailed) ⊎ (fault ≡ Memory))

-- the fault for a certificate that couldn't be judged
abbrev pub fault_of_check : CheckFault → Fault
fault_of_check certs.Device = Stream ReadFailed
fault_of_check certs.Memory = Memory

-- what is accepted at a cost is accepted by a call at that, unless memory ran out
abbrev pub AcceptsAny : List ℕ → List (List ℕ) → List ℕ → List ℕ → Result Verdict Fault → Type 0
AcceptsAny project files master cert result = (cost : ℕ) → Accepts project files master cert cost → AnswersAccepted result cost

-- ---- a call that is given the cut, what was found of the master's file, and a reader of the certificate
-- if the call accepts, P holds of each project, files and master's file that these are of, and of the cost
abbrev pub OnAccepted : CutContent → Result Found ReadFault → Result Verdict Fault → (List ℕ → List (List ℕ) → List ℕ → ℕ → Type 0) → Type 0
OnAccepted cut found result P = (project : List ℕ) (files : List (List ℕ)) (master : List ℕ) → IsFoundIn project files cut found master → IfMasterAccepted result (P project files master)

-- P holds of each project, files and master's file that these are of; what was found is of the file's recording, or is
-- its first fault
abbrev pub ForEachHeld : CutContent → Result Found ReadFault → (List ℕ → List (List ℕ) → List ℕ → Type 0) → Type 0
ForEachHeld cut found P = (project : List ℕ) (files : List (List ℕ)) (master : List ℕ) → SaysCut project files None cut → IsFoundHeld cut master found → P project files master

-- the master is accepted at this cost with the certificate that the reader has left, if its bytes are known
abbrev pub AcceptsLeft : {R : Type 0} → (R → Option (List ℕ)) → CertReader R → List ℕ → List (List ℕ) → List ℕ → ℕ → Type 0
AcceptsLeft left cert project files master cost = IfLeft left cert (λ bytes. Accepts project files master bytes cost)

-- the cost is the sum over all windows as in `CostsWindows`, if the bytes that the reader has left are known
abbrev pub CostsIfLeft : {R : Type 0} → (R → Option (List ℕ)) → CertReader R → List ℕ → List (List ℕ) → List ℕ → ℕ → Type 0
CostsIfLeft left cert project files master cost = IfLeft left cert (λ _. CostsWindows project files master cost)

-- what is accepted at a cost with the certificate that the reader has left, if its bytes are known, the call accepts at
-- that, unless memory ran out or a read failed
abbrev pub AcceptsAnyLeft : {R : Type 0} → (R → Option (List ℕ)) → CertReader R → Result Verdict Fault → List ℕ → List (List ℕ) → List ℕ → Type 0
AcceptsAnyLeft left cert result project files master = (cost : ℕ) → IfLeft left cert (λ bytes. Accepts project files master bytes cost → ReadsAccepted result cost)

-- if the call rejects, this is the first reason against the master and the certificate that the reader has left, if its
-- bytes are known
abbrev pub RejectsLeft : {R : Type 0} → (R → Option (List ℕ)) → CertReader R → Result Verdict Fault → List ℕ → List (List ℕ) → List ℕ → Type 0
RejectsLeft left cert result project files master = IfMasterRejected result (λ reason. IfLeft left cert (λ bytes. RejectsFirst project files master bytes reason))
