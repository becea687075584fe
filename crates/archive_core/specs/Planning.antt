-- What is planned for a project and takes before it is written.
use Rattle.std.specs.Prelude.{◌≡◌, ℕ, Bool, List, Some, Result, Ok, Err}
use Rattle.form_core.specs.declared.form.Form.{Form}
use Rattle.form_core.specs.Forms.{text_in}
use Rattle.master_core.specs.Certifying.{Certifies, IsRoomOf}
use Rattle.master_core.specs.Choosing.{AreBridgesOf}
use Rattle.master_core.specs.Filing.{AreMasterEnds}
use Rattle.master_core.specs.Best.{AreBestChannels, master_of}
use Rattle.master_core.specs.Writing.{IsRoomFor}
use Rattle.request_core.specs.declared.fault.Fault.{Fault}
use Rattle.request_core.specs.declared.fault.Fault.TheVariants.{Memory}
use Rattle.cut_core.specs.Cuts.{CutContent}
use Rattle.judge_core.specs.Accepting.{Accepts, CostsLeast, CostsWindows, IsMaster}
use Rattle.request_core.specs.Cutting.{SaysCut}
use Rattle.archive_core.specs.Editing.{Edits, IsCertificate}
use Rattle.archive_core.specs.declared.planning.PlannedMaster.{PlannedMaster}

-- the bytes are the file of a planned master: the text of the best channels of its cut
pub record IsFileOf (planned : PlannedMaster) (file : List ℕ) : Type 0 where
  pub channels : List (List Bool)
  pub best : AreBestChannels planned.cut channels
  pub text : text_in planned.form (master_of planned.cut planned.form channels) ≡ Some file

-- P holds of the file of a planned master
abbrev pub ForFileOf : PlannedMaster → (List ℕ → Type 0) → Type 0
ForFileOf planned P = (file : List ℕ) → IsFileOf planned file → P file

-- the cost of the bridges of a planned master
abbrev pub planned_total : PlannedMaster → ℕ
planned_total planned = planned.bridges.total

-- the bytes are the certificate that shows each bridge of a planned master to be least
abbrev pub CertifiesPlanned : PlannedMaster → List ℕ → Type 0
CertifiesPlanned planned cert = Certifies planned.cut planned.bridges cert

-- the bridges and the bytes before and after the sound are those of the plan's cut, and its reserved memory fits it
pub record IsPlanned (planned : PlannedMaster) : Type 0 where
  pub bridges_are : AreBridgesOf planned.cut planned.bridges
  pub ends_are : AreMasterEnds planned.cut planned.form planned.ends
  pub room_fits : IsRoomFor planned.cut planned.room
  pub cert_room_fits : IsRoomOf planned.cut planned.cert_room

-- the same is planned, whatever the memory for its file holds now
abbrev pub IsSamePlan : PlannedMaster → PlannedMaster → Type 0
IsSamePlan old new = new ≡ record old { room = new.room }

-- the plan has one file, and no other: it is the master of the project and the takes with the first least bridges; the
-- plan's certificate is that of this master, and with it the master is accepted; no master costs less
pub record Plans (project : List ℕ) (files : List (List ℕ)) (form : Form) (planned : PlannedMaster) : Type 0 where
  pub file : List ℕ
  pub is_file : IsFileOf planned file
  pub only : (other : List ℕ) → IsFileOf planned other → other ≡ file
  pub edits : Edits project files form file (planned_total planned)
  pub is_master : IsMaster project files file
  pub certificate : (cert : List ℕ) → CertifiesPlanned planned cert → IsCertificate project files file cert
  pub accepted : (cert : List ℕ) → CertifiesPlanned planned cert → Accepts project files file cert (planned_total planned)
  pub joint : CostsLeast project files file (planned_total planned)
  pub windows : CostsWindows project files file (planned_total planned)

-- a master with this file and this cost was planned, unless the call reports `Memory`
abbrev pub AnswersPlanned : Result PlannedMaster Fault → List ℕ → ℕ → Type 0
AnswersPlanned (Ok planned) master cost = IsFileOf planned master × (planned_total planned ≡ cost)
AnswersPlanned (Err fault) master cost = fault ≡ Memory

-- P holds of each project and files that the cut, for a file of the form, is of
abbrev pub ForCut : Form → CutContent → (List ℕ → List (List ℕ) → Type 0) → Type 0
ForCut form cut P = (project : List ℕ) (files : List (List ℕ)) → SaysCut project files (Some form) cut → P project files
