-- What is cut from a project and takes.
use Rattle.std.specs.Prelude.{◌≡◌, ℕ, List, None, Some, Result, Ok, Err}
use Rattle.dsd_bits.specs.Contents.{Content}
use Rattle.form_core.specs.declared.form.Form.{Form}
use Rattle.form_core.specs.Forms.{HoldsAs, text_in}
use Rattle.cut_core.specs.Cuts.{CutContent}
use Rattle.master_core.specs.Certificates.{cert_of}
use Rattle.master_core.specs.Best.{IsBestMaster}
use Rattle.archive_core.specs.declared.editing.Edited.{Edited}
use Rattle.request_core.specs.declared.fault.Fault.{Fault}
use Rattle.request_core.specs.declared.fault.Fault.TheVariants.{Memory}
use Rattle.judge_core.specs.Accepting.{Accepts, CostsWindows}
use Rattle.request_core.specs.Cutting.{SaysCut}

-- these bytes are the file of the master whose every bridge is the first least one, and this is its cost
pub record Edits (project : List ℕ) (files : List (List ℕ)) (form : Form) (master : List ℕ) (cost : ℕ) : Type 0 where
  pub cut : CutContent
  pub says : SaysCut project files (Some form) cut
  pub recording : Content
  pub best : IsBestMaster cut form recording cost
  pub text : text_in form recording ≡ Some master

-- the same of what was returned
abbrev pub IsEdited : List ℕ → List (List ℕ) → Form → Edited → Type 0
IsEdited project files form made = Edits project files form made.master.items made.total

-- the bytes are the certificate of a master of a project and takes, a function of these and of the bits of its bridges
pub record IsCertificate (project : List ℕ) (files : List (List ℕ)) (file cert : List ℕ) : Type 0 where
  pub cut : CutContent
  pub says : SaysCut project files None cut
  pub form : Form
  pub recording : Content
  pub file_holds : HoldsAs file form recording
  pub text : cert ≡ cert_of cut recording.channels

-- this master and this cost were returned, unless memory ran out
abbrev pub AnswersEdited : Result Edited Fault → List ℕ → ℕ → Type 0
AnswersEdited (Ok made) master cost = (made.master.items ≡ master) × (made.total ≡ cost)
AnswersEdited (Err fault) master cost = fault ≡ Memory

-- P holds of the master of a project and files as in `Edits`, and of its cost
abbrev pub ForEdits : List ℕ → List (List ℕ) → Form → (List ℕ → ℕ → Type 0) → Type 0
ForEdits project files form P = (master : List ℕ) (cost : ℕ) → Edits project files form master cost → P master cost

-- the master that was returned is accepted with the certificate that was returned, at the returned total
abbrev pub AcceptsEdited : List ℕ → List (List ℕ) → Edited → Type 0
AcceptsEdited project files made = Accepts project files made.master.items made.cert.items made.total

-- the certificate that was returned is that of the master that was returned
abbrev pub CertifiesEdited : List ℕ → List (List ℕ) → Edited → Type 0
CertifiesEdited project files made = IsCertificate project files made.master.items made.cert.items

-- the returned total is the sum over all windows of the master that was returned
abbrev pub SumsEdited : List ℕ → List (List ℕ) → Edited → Type 0
SumsEdited project files made = CostsWindows project files made.master.items made.total
