-- What a command does to a folder, by the names that it gets. What it says of bytes holds of some that were read, in
-- any folder, and of those that openings of the names give, if the folder's bytes are known.
use Rattle.std.specs.Prelude.{◌≡◌, ◌≢◌, ⊤, ℕ, Bool, true, false, List, IfSome, IsTrue, Option, None, Some, ◌⊎◌, Result, Ok, Err, map}
use Rattle.std.specs.Borrow.{Bor}
use Rattle.request_core.specs.declared.fault.Fault as calls
use Rattle.request_core.specs.declared.fault.Fault.TheVariants.{Memory}
use Rattle.form_core.specs.declared.form.Form.{Form}
use Rattle.judge_core.specs.declared.verdict.Verdict.{Verdict}
use Rattle.judge_core.specs.declared.verdict.Verdict.TheVariants as verdicts
use Rattle.judge_core.specs.Accepting.{Accepts, CostsLeast, CostsWindows, IsLeastMaster, IsMaster, RejectsFirst}
use Rattle.request_core.specs.Cutting.{said_cut}
use Rattle.form_core.specs.Steps.{FailsUnless}
use Rattle.archive_core.specs.Editing.{Edits, IsCertificate}
use Rattle.folder_core.specs.Files.{OpensAs, IsPutInPart, IsPut, IsReadOf, KeepsAllBut, KeepsOthers, View}
use Rattle.transfer_commands.specs.BetweenPlaying.{PlayBetweenComesTo}
use Rattle.transfer_commands.specs.BetweenSpeaking.{SpeakBetweenComesTo}
use Rattle.transfer_commands.specs.declared.between.NeighbourNames.{NeighbourNames}
use Rattle.transfer_commands.specs.Converting.{ConvertComesTo}
use Rattle.transfer_commands.specs.DopConverting.{ConvertDopComesTo}
use Rattle.transfer_commands.specs.DopPlaying.{PlayDopComesTo}
use Rattle.transfer_commands.specs.Playing.{PlayComesTo}
use Rattle.transfer_commands.specs.Sources.{AreSources, IsUnnamed}
use Rattle.transfer_commands.specs.Reporting.{ReportComesTo}
use Rattle.transfer_commands.specs.declared.fault.CommandFault.{CommandFault}
use Rattle.transfer_commands.specs.declared.fault.CommandFault.TheVariants as faults
use Rattle.null_commands.specs.Testing.{TestComesTo}
use Rattle.null_commands.specs.declared.fault.TestFault.{TestFault}
use Rattle.null_commands.specs.declared.tested.Tested.{Tested}
use Rattle.transfer_commands.specs.PartPlaying.{PlayPartComesTo}
use Rattle.transfer_commands.specs.Speaking.{SpeakComesTo}
use Rattle.transfer_commands.specs.SpeakersConverting.{ConvertSpeakersComesTo}
use Rattle.transfer_core.specs.declared.spans.Span.{Span}
use Rattle.wave_core.specs.Heads.{head_of}
use Rattle.transfer_commands.specs.declared.parts.PartFault.{PartFault}
use Rattle.command_core.specs.Hosts.{State}
use Rattle.command_core.specs.Outcomes.{between_outcome_of, dop_outcome_of, of_words, outcome_of, part_outcome_of, speakers_outcome_of, spoken_between_outcome_of, spoken_outcome_of, tested_outcome, verdict_of}
use Rattle.command_core.specs.SumEndings.{EndsSums}
use Rattle.command_core.specs.declared.outcome.Outcome.{Outcome}
use Rattle.command_core.specs.declared.outcome.Outcome.TheVariants.{Played, Converted, Edited, Info, Summed, Fault}
use Rattle.command_core.specs.declared.sum_status.SumStatus.{SumStatus}
use Rattle.words_core.specs.declared.fault.WordsFault.{WordsFault}
use Rattle.words_core.specs.declared.task.Task.{Task}
use Rattle.words_core.specs.declared.task.Task.TheVariants as tasks

-- the files of a master that is cut: their names, and the form of the master
pub record Cut : Type 0 where
  pub form : Form
  pub project_name : List ℕ
  pub master_name : List ℕ
  pub cert_name : List ℕ

-- the files of a master of this form: the names of its project, the master and its certificate
abbrev pub cut_into : Form → List ℕ → List ℕ → List ℕ → Cut
cut_into form project master cert = record { form = form; project_name = project; master_name = master; cert_name = cert }

-- the master's file holds now the master of a project and takes that were read, at this cost, unless its name is that
-- of the certificate too; no file of another name changed
pub record CutsFile (cut : Cut) (old new : View) (project : List ℕ) (takes : List (List ℕ)) (master : List ℕ) (total : ℕ) : Type 0 where
  pub sources : AreSources cut.project_name old project takes
  pub master_put : cut.master_name ≢ cut.cert_name → IsPut new cut.master_name master
  pub others : KeepsAllBut cut.master_name cut.cert_name old new
  pub edits : Edits project takes cut.form master total

-- a file is a master of a project and takes, and of all their masters none costs less, read whole and over its windows
pub record CostsAtLeast (project : List ℕ) (takes : List (List ℕ)) (master : List ℕ) (total : ℕ) : Type 0 where
  pub is_master : IsMaster project takes master
  pub joint : CostsLeast project takes master total
  pub windows : CostsWindows project takes master total

-- a master was cut at this cost, than which none costs less, and the certificate's file holds now its certificate, with
-- which it is accepted at this cost
pub record EditsFiles (cut : Cut) (old new : View) (total : ℕ) : Type 0 where
  pub project : List ℕ
  pub takes : List (List ℕ)
  pub master : List ℕ
  pub cert : List ℕ
  pub cuts : CutsFile cut old new project takes master total
  pub cert_put : IsPut new cut.cert_name cert
  pub certificate : IsCertificate project takes master cert
  pub accepted : Accepts project takes master cert total
  pub least : CostsAtLeast project takes master total

-- the master's file is as it was, or holds a prefix of the master that was cut; no other file changed
pub record CutsPrefix (cut : Cut) (old new : View) : Type 0 where
  pub project : List ℕ
  pub takes : List (List ℕ)
  pub master : List ℕ
  pub total : ℕ
  pub sources : AreSources cut.project_name old project takes
  pub prefix : IsPutInPart cut.master_name old new master
  pub others : KeepsOthers cut.master_name old new
  pub edits : Edits project takes cut.form master total

-- a master was cut, and the certificate's file is as it was, or holds a prefix of its certificate, with which it is
-- accepted
pub record LeavesMaster (cut : Cut) (old new : View) : Type 0 where
  pub project : List ℕ
  pub takes : List (List ℕ)
  pub master : List ℕ
  pub cert : List ℕ
  pub total : ℕ
  pub cuts : CutsFile cut old new project takes master total
  pub prefix : cut.cert_name ≢ cut.master_name → IsPutInPart cut.cert_name old new cert
  pub certificate : IsCertificate project takes master cert
  pub accepted : Accepts project takes master cert total

-- a master that a verdict accepts is a master of the project and takes, no bits of any bridge cost less, and no master
-- of theirs costs less
pub record IsLeastAt (project : List ℕ) (takes : List (List ℕ)) (master : List ℕ) (cost : ℕ) : Type 0 where
  pub is_master : IsMaster project takes master
  pub least : IsLeastMaster project takes master
  pub joint : CostsLeast project takes master cost

-- the same for a verdict that may be another one
abbrev pub IsLeastIfAccepted : List ℕ → List (List ℕ) → List ℕ → Verdict → Type 0
IsLeastIfAccepted project takes master (verdicts.Accepted cost) = IsLeastAt project takes master cost
IsLeastIfAccepted project takes master (verdicts.Rejected reason) = Unit {0}

-- a master is accepted by a certificate at this cost, which is that over its windows, or this reason comes first
-- against it, and there is no cost at which it is accepted
abbrev pub Judges : List ℕ → List (List ℕ) → List ℕ → List ℕ → Verdict → Type 0
Judges project takes master cert (verdicts.Accepted cost) = Accepts project takes master cert cost × CostsWindows project takes master cost
Judges project takes master cert (verdicts.Rejected reason) = RejectsFirst project takes master cert reason × ((cost : ℕ) → Accepts project takes master cert cost → ⊥)

-- the same for whatever certificate was read, if its bytes are known
abbrev pub JudgesBy : List ℕ → List (List ℕ) → List ℕ → Option (List ℕ) → Verdict → Type 0
JudgesBy project takes master left verdict = IfSome left (λ cert. Judges project takes master cert verdict)

-- a master that was read is least, if the verdict by a project and takes that were read accepts it; if the folder's
-- bytes are known, the verdict is the one by the certificate; and nothing changed
pub record ChecksFiles (project_name master_name cert_name : List ℕ) (old new : View) (verdict : Verdict) : Type 0 where
  pub project : List ℕ
  pub takes : List (List ℕ)
  pub master : List ℕ
  pub sources : AreSources project_name old project takes
  pub master_read : IsReadOf old master_name master
  pub least : IsLeastIfAccepted project takes master verdict
  pub by_certificate : IsTrue old.is_known → (cert : List ℕ) × OpensAs old cert_name cert × Judges project takes master cert verdict
  pub same : new ≡ old

-- this is the first fault of making a cut of a project and takes that were read, into a file of the form if one is
-- given
pub record IsUncut (form : Option Form) (project_name : List ℕ) (old : View) (fault : calls.Fault) : Type 0 where
  pub project : List ℕ
  pub takes : List (List ℕ)
  pub sources : AreSources project_name old project takes
  pub first : FailsUnless Memory fault (said_cut project takes form)

-- nothing changed, and memory ran out, or this fault comes first on the way from the project to its cut
abbrev pub CutRefused : Option Form → List ℕ → View → View → calls.Fault → Type 0
CutRefused form project old new fault = (new ≡ old) × ((fault ≡ Memory) ⊎ (IsUnnamed project old fault ⊎ IsUncut form project old fault))

-- how `edit FORM PROJECT MASTER CERT` changes the folder
abbrev pub EditComesTo : Cut → View → View → Result ℕ CommandFault → Type 0
EditComesTo cut old new (Ok total) = EditsFiles cut old new total
EditComesTo cut old new (Err (faults.Call fault)) = CutRefused (Some cut.form) cut.project_name old new fault
EditComesTo cut old new (Err faults.ReadFailed) = new ≡ old
EditComesTo cut old new (Err faults.WriteFailed) = CutsPrefix cut old new ⊎ LeavesMaster cut old new

-- how `check PROJECT MASTER CERT` changes the folder
abbrev pub CheckComesTo : List ℕ → List ℕ → List ℕ → View → View → Result Verdict CommandFault → Type 0
CheckComesTo project master cert old new (Ok verdict) = ChecksFiles project master cert old new verdict
CheckComesTo project master cert old new (Err (faults.Call fault)) = CutRefused None project old new fault
CheckComesTo project master cert old new (Err faults.ReadFailed) = new ≡ old
CheckComesTo project master cert old new (Err faults.WriteFailed) = ⊥

-- a command came to a result that P holds of, and this is its outcome: what was done, or the fault
abbrev pub Says : {T : Type 0} → (T → Outcome) → (Result T CommandFault → Type 0) → Outcome → Type 0
Says {T} done P outcome = (came : Result T CommandFault) × (outcome ≡ outcome_of done came) × P came

-- the same of a command that plays a part
abbrev pub SaysPart : (Result ℕ PartFault → Type 0) → Outcome → Type 0
SaysPart P outcome = (came : Result ℕ PartFault) × (outcome ≡ part_outcome_of came) × P came

-- the same of a command with faults of its own, whose outcome of what it came to is this function
abbrev pub SaysAs : {T F : Type 0} → (Result T F → Outcome) → (Result T F → Type 0) → Outcome → Type 0
SaysAs {T} {F} names P outcome = (came : Result T F) × (outcome ≡ names came) × P came

-- the same of a null test
abbrev pub SaysTest : (Result Tested TestFault → Type 0) → Outcome → Type 0
SaysTest P outcome = (came : Result Tested TestFault) × (outcome ≡ tested_outcome came) × P came

-- how playing a part of a file ends, with the loudspeakers of its channels or without them, and with room in the header
-- for sizes of 64 bits or without it
abbrev pub PlaysPartAs : Bool → Bool → List ℕ → List ℕ → List ℕ → Span → View → View → Outcome → Type 0
PlaysPartAs false is_wide project input output span old new = SaysPart (PlayPartComesTo (head_of is_wide 0) project input output span old new)
PlaysPartAs true is_wide project input output span old new = SaysAs spoken_outcome_of (SpeakComesTo is_wide project input output span old new)

-- the same of all of a file: with one of both or both, all of it is a part
abbrev pub PlaysAs : Bool → Bool → List ℕ → List ℕ → List ℕ → View → View → Outcome → Type 0
PlaysAs false false project input output old new = Says Played (PlayComesTo project input output old new)
PlaysAs false true project input output old new = PlaysPartAs false true project input output (record { from = None; to = None }) old new
PlaysAs true is_wide project input output old new = PlaysPartAs true is_wide project input output (record { from = None; to = None }) old new

-- how playing a file between its neighbours ends, with the loudspeakers of its channels or without them, and with room
-- in the header for sizes of 64 bits or without it
abbrev pub PlaysBetweenAs : Bool → Bool → List ℕ → List ℕ → List ℕ → NeighbourNames → View → View → Outcome → Type 0
PlaysBetweenAs false is_wide project input output around old new = SaysAs between_outcome_of (PlayBetweenComesTo (head_of is_wide 0) project input output around old new)
PlaysBetweenAs true is_wide project input output around old new = SaysAs spoken_between_outcome_of (SpeakBetweenComesTo is_wide project input output around old new)

-- how converting ends, with the loudspeakers of the channels or without them
abbrev pub ConvertsAs : Bool → Form → List ℕ → List ℕ → View → View → Outcome → Type 0
ConvertsAs false form input output old new = Says Converted (ConvertComesTo form input output old new)
ConvertsAs true form input output old new = SaysAs speakers_outcome_of (ConvertSpeakersComesTo form input output old new)

-- a task that plays all of a recording
abbrev pub IsPlayedWhole : Task → Type 0
IsPlayedWhole (tasks.Play project input output speakers rf64) = ⊤
IsPlayedWhole _ = ⊥

-- a task that plays a part of a recording
abbrev pub IsPlayedPart : Task → Type 0
IsPlayedPart (tasks.PlayPart project input output from to speakers rf64) = ⊤
IsPlayedPart _ = ⊥

-- a task that plays a recording between others
abbrev pub IsPlayedBetween : Task → Type 0
IsPlayedBetween (tasks.PlayBetween project input output previous next speakers rf64) = ⊤
IsPlayedBetween _ = ⊥

-- a task that converts
abbrev pub IsConverting : Task → Type 0
IsConverting (tasks.Convert form input output speakers) = ⊤
IsConverting (tasks.ConvertDop form input output) = ⊤
IsConverting _ = ⊥

-- how a command changes the folder: a judgement changes no file, and neither does a refusal, unless a file is played or
-- converted piece by piece; a failed write changes one file, or two if the first is the master that was cut; and if the
-- folder keeps old files, no fault replaces one by a prefix. `sum` is no command over one folder
abbrev pub TaskComesTo : Task → View → View → Outcome → Type 0
TaskComesTo (tasks.Play project input output speakers rf64) old new = PlaysAs speakers rf64 project.now input.now output.now old new
TaskComesTo (tasks.PlayPart project input output from to speakers rf64) old new = PlaysPartAs speakers rf64 project.now input.now output.now (record { from = from; to = to }) old new
TaskComesTo (tasks.Convert form input output speakers) old new = ConvertsAs speakers form input.now output.now old new
TaskComesTo (tasks.Edit form project master cert) old new = Says Edited (EditComesTo (cut_into form project.now master.now cert.now) old new)
TaskComesTo (tasks.Check project master cert) old new = Says verdict_of (CheckComesTo project.now master.now cert.now old new)
TaskComesTo (tasks.NullTest mix master) old new = SaysTest (TestComesTo mix.now master.now old new)
TaskComesTo (tasks.Info file) old new = Says Info (ReportComesTo file.now old new)
TaskComesTo (tasks.PlayBetween project input output previous next speakers rf64) old new = PlaysBetweenAs speakers rf64 project.now input.now output.now (record { previous = previous; next = next }) old new
TaskComesTo (tasks.PlayDop input output) old new = Says Played (PlayDopComesTo input.now output.now old new)
TaskComesTo (tasks.ConvertDop form input output) old new = SaysAs dop_outcome_of (ConvertDopComesTo form input.now output.now old new)
TaskComesTo (tasks.Sum is_check files) old new = λ outcome. ⊥

-- ---- what words ask for
-- an outcome, or out of memory in its place if the folder's bytes aren't known
abbrev pub IsOrMemory : View → Outcome → Outcome → Type 0
IsOrMemory view came outcome = (outcome ≡ came) ⊎ ((outcome ≡ Fault Memory) × (IsTrue view.is_known → ⊥))

-- a command over a folder came to this, and printed nothing
abbrev pub FolderComesTo : Task → State → State → Outcome → Type 0
FolderComesTo task old new outcome = (came : Outcome) × TaskComesTo task old.view new.view came × (new.printed ≡ old.printed) × IsOrMemory new.view came outcome

-- `sum` came to this, and printed its lines
abbrev pub SumsComeTo : Task → State → State → Outcome → Type 0
SumsComeTo (tasks.Sum is_check files) old new outcome = (status : SumStatus) × (outcome ≡ Summed status) × EndsSums is_check (map (λ (file : Bor (List ℕ)). file.now) files.now) old new status
SumsComeTo _ old new outcome = ⊥

-- what words ask for came to this: their task, or the fault of words that ask for none, after which nothing changed
abbrev pub AskedComesTo : Result Task WordsFault → State → State → Outcome → Type 0
AskedComesTo (Ok task) old new outcome = FolderComesTo task old new outcome ⊎ SumsComeTo task old new outcome
AskedComesTo (Err fault) old new outcome = (outcome ≡ of_words fault) × (new ≡ old)
