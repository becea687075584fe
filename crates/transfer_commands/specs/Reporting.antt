-- What is reported of a file of a folder.
use Rattle.std.specs.Prelude.{◌≡◌, ℕ, List, ◌⊎◌, Result, Ok, Err}
use Rattle.request_core.specs.declared.fault.Fault as calls
use Rattle.request_core.specs.declared.fault.Fault.TheVariants.{Memory}
use Rattle.request_core.specs.Faults.{fault_of_file}
use Rattle.dsd_bits.specs.Contents.{Content, described}
use Rattle.form_core.specs.Forms.{HoldsAs}
use Rattle.form_core.specs.Opening.{Opens, opened_of}
use Rattle.form_core.specs.declared.fault.ReadFault.{ReadFault}
use Rattle.folder_core.specs.Files.{IsReadOf, View}
use Rattle.transfer_commands.specs.declared.reporting.Reported.{Reported}
use Rattle.transfer_commands.specs.declared.fault.CommandFault.{CommandFault}
use Rattle.transfer_commands.specs.declared.fault.CommandFault.TheVariants.{Call, ReadFailed, WriteFailed}

-- the bytes are a file of the reported form, and hold a recording with the reported description
pub record IsReportOf (file : List ℕ) (reported : Reported) : Type 0 where
  pub recording : Content
  pub holds : HoldsAs file reported.form recording
  pub states : reported.description ≡ described recording

-- bytes that were read of the file hold what is reported, and nothing changed
pub record ReportsFile (file_name : List ℕ) (old new : View) (reported : Reported) : Type 0 where
  pub file : List ℕ
  pub file_read : IsReadOf old file_name file
  pub is_known : IsReportOf file reported
  pub same : new ≡ old

-- bytes are not read as a recording for this fault
pub record IsUnopened (file : List ℕ) (fault : calls.Fault) : Type 0 where
  pub cause : ReadFault
  pub reading : Opens (Err cause) (opened_of file)
  pub named : fault ≡ fault_of_file cause

-- bytes that were read of the file can't be read as a recording, for this fault
pub record IsUnreported (file_name : List ℕ) (old : View) (fault : calls.Fault) : Type 0 where
  pub file : List ℕ
  pub file_read : IsReadOf old file_name file
  pub unopened : IsUnopened file fault

-- how reporting a file changes the folder
abbrev pub ReportComesTo : List ℕ → View → View → Result Reported CommandFault → Type 0
ReportComesTo file old new (Ok reported) = ReportsFile file old new reported
ReportComesTo file old new (Err (Call fault)) = (new ≡ old) × ((fault ≡ Memory) ⊎ IsUnreported file old fault)
ReportComesTo file old new (Err ReadFailed) = new ≡ old
ReportComesTo file old new (Err WriteFailed) = ⊥
