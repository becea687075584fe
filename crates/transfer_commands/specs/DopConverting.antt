-- How a folder changes if one of its files of DoP samples is converted to another.
use Rattle.std.specs.Prelude.{◌≡◌, ◌⊎◌, ℕ, List, Option, IfSome, Some, None, Result, Ok, Err, ⊤}
use Rattle.std.specs.Io.KnownBytes.{Appends}
use Rattle.chunk_core.specs.Outlets.{AppendsPrefix}
use Rattle.dsd_bits.specs.Contents.{Content}
use Rattle.dop_core.specs.Outlines.{IsIn, IsOutline}
use Rattle.dop_core.specs.Reading.{recording_of}
use Rattle.dop_core.specs.declared.fault.DopFault.{DopFault}
use Rattle.dop_core.specs.declared.fault.DopFault.TheVariants as dops
use Rattle.dop_core.specs.declared.outline.DopOutline.{DopOutline}
use Rattle.dop_core.specs.declared.stop.DopStop.{DopStop}
use Rattle.folder_core.specs.Files.{IsPut, IsPutInPart, IsReadOf, KeepsOthers, View}
use Rattle.form_core.specs.Forms.{text_in}
use Rattle.form_core.specs.Writing.{HoldsSound}
use Rattle.form_core.specs.declared.form.Form.{Form}
use Rattle.request_core.specs.declared.fault.Fault.TheVariants.{Memory, NotWholeBytes}
use Rattle.transfer_commands.specs.Converting.{KeepsOld}
use Rattle.transfer_commands.specs.declared.convert_dop.DopConvertFault.{DopConvertFault}
use Rattle.transfer_commands.specs.declared.convert_dop.DopConvertFault.TheVariants as faults
use Rattle.transfer_commands.specs.declared.fault.CommandFault.TheVariants.{Call, ReadFailed, WriteFailed}

-- bytes that were read of a name are a WAVE file of DoP samples, which have the bits of this recording
pub record DopReads (file_name : List ℕ) (old : View) (recording : Content) : Type 0 where
  pub file : List ℕ
  pub file_read : IsReadOf old file_name file
  pub has : recording_of file ≡ Ok recording

-- the output now holds the file of the form that is written for that recording, which has its sound; no other file
-- changed
pub record ConvertsDop (form : Form) (file_name output_name : List ℕ) (old new : View) : Type 0 where
  pub recording : Content
  pub reads : DopReads file_name old recording
  pub bytes : List ℕ
  pub text : text_in form recording ≡ Some bytes
  pub sound : HoldsSound form recording bytes
  pub output_put : IsPut new output_name bytes
  pub others : KeepsOthers output_name old new

-- the output is unchanged, or holds a prefix of what bytes that were read of a file of DoP samples are converted to, if
-- the bytes of the last reading are the same; an old output is kept, and no other file changed
pub record LeavesDopPart (form : Form) (file_name output_name : List ℕ) (old new : View) : Type 0 where
  pub recording : Content
  pub reads : DopReads file_name old recording
  pub last : List ℕ
  pub last_read : IsReadOf old file_name last
  pub bytes : List ℕ
  pub text : text_in form recording ≡ Some bytes
  pub part : last ≡ reads.file → IsPutInPart output_name old new bytes
  pub kept : KeepsOld output_name old new
  pub others : KeepsOthers output_name old new

-- this is the first fault of bytes that were read of a name
pub record IsDopRefused (file_name : List ℕ) (old : View) (fault : DopFault) : Type 0 where
  pub file : List ℕ
  pub file_read : IsReadOf old file_name file
  pub first : recording_of file ≡ Err fault

-- the form has no place for the bits that were read of a name
pub record IsPartByte (form : Form) (file_name : List ℕ) (old : View) : Type 0 where
  pub recording : Content
  pub reads : DopReads file_name old recording
  pub none : text_in form recording ≡ None

-- the fault of a reading as the command returns it
abbrev pub IsRefusal : DopFault → DopConvertFault → Type 0
IsRefusal dops.Memory refusal = refusal ≡ faults.Command (Call Memory)
IsRefusal fault refusal = refusal ≡ faults.Refused fault

-- nothing changed, or the output holds at most a prefix
abbrev pub ConvertsDopInPart : Form → List ℕ → List ℕ → View → View → Type 0
ConvertsDopInPart form input output old new = (new ≡ old) ⊎ LeavesDopPart form input output old new

-- how converting the input to the output changes the folder
abbrev pub ConvertDopComesTo : Form → List ℕ → List ℕ → View → View → Result (Unit {0}) DopConvertFault → Type 0
ConvertDopComesTo form input output old new (Ok u) = ConvertsDop form input output old new
ConvertDopComesTo form input output old new (Err (faults.Refused fault)) = (new ≡ old) × IsDopRefused input old fault
ConvertDopComesTo form input output old new (Err (faults.Command (Call Memory))) = ConvertsDopInPart form input output old new
ConvertDopComesTo form input output old new (Err (faults.Command (Call NotWholeBytes))) = (new ≡ old) × IsPartByte form input old
ConvertDopComesTo form input output old new (Err (faults.Command (Call fault))) = ⊥
ConvertDopComesTo form input output old new (Err (faults.Command ReadFailed)) = ConvertsDopInPart form input output old new
ConvertDopComesTo form input output old new (Err (faults.Command WriteFailed)) = LeavesDopPart form input output old new

-- the same of a file that was read, whichever name it was read under
abbrev pub ReadComesTo : List ℕ → Form → List ℕ → View → View → Result (Unit {0}) DopConvertFault → Type 0
ReadComesTo file form output old new came = (input : List ℕ) → IsReadOf old input file → ConvertDopComesTo form input output old new came

-- ---- a file that can be opened again

-- bytes that were read of a name are this outline with some samples
pub record ScansRead (file_name : List ℕ) (old : View) (o : DopOutline) : Type 0 where
  pub file : List ℕ
  pub file_read : IsReadOf old file_name file
  pub is_outline : IsOutline o
  pub is_in : IsIn o file

-- a reader's file, if it is known, is this outline with some samples, and so are some bytes otherwise
pub record ScansLeft (left : Option (List ℕ)) (o : DopOutline) : Type 0 where
  pub is_outline : IsOutline o
  pub known : IfSome left (IsIn o)
  pub some : (file : List ℕ) × IsIn o file

-- this is the first fault of a reader's file, if that is known, and of some bytes
abbrev pub IsFirstDopFault : Option (List ℕ) → DopFault → Type 0
IsFirstDopFault left fault = IfSome left (λ file. recording_of file ≡ Err fault) × ((file : List ℕ) × (recording_of file ≡ Err fault))

-- a reader's file was not looked through, or has this first fault
abbrev pub IsUnscannedLeft : Option (List ℕ) → DopConvertFault → Type 0
IsUnscannedLeft left (faults.Refused fault) = IsFirstDopFault left fault
IsUnscannedLeft left (faults.Command (Call fault)) = fault ≡ Memory
IsUnscannedLeft left (faults.Command ReadFailed) = ⊤
IsUnscannedLeft left (faults.Command WriteFailed) = ⊥

-- a file was not looked through, or bytes that were read of it have this first fault
abbrev pub IsUnscanned : List ℕ → View → DopConvertFault → Type 0
IsUnscanned file_name old (faults.Refused fault) = IsDopRefused file_name old fault
IsUnscanned file_name old (faults.Command (Call fault)) = fault ≡ Memory
IsUnscanned file_name old (faults.Command ReadFailed) = ⊤
IsUnscanned file_name old (faults.Command WriteFailed) = ⊥

-- what a file of DoP samples has was written as a file of the form, which has its sound
pub record MakesDop (form : Form) (file : List ℕ) (held written : Option (List ℕ)) : Type 0 where
  pub recording : Content
  pub has : recording_of file ≡ Ok recording
  pub bytes : List ℕ
  pub text : text_in form recording ≡ Some bytes
  pub sound : HoldsSound form recording bytes
  pub put : Appends held written bytes

-- if the file is one of the outline, a prefix of what is due was written
abbrev pub StartsDop : DopOutline → Form → List ℕ → Option (List ℕ) → Option (List ℕ) → Type 0
StartsDop o form file held written = IsIn o file → (recording : Content) (bytes : List ℕ) → recording_of file ≡ Ok recording → text_in form recording ≡ Some bytes → AppendsPrefix held written bytes

-- how converting a reader's file of this outline to a writer ends
abbrev pub ConvertsDopTo : DopOutline → Form → Option (List ℕ) → Option (List ℕ) → Option (List ℕ) → Result (Unit {0}) DopStop → Type 0
ConvertsDopTo o form left held written (Ok u) = IfSome left (λ file. MakesDop form file held written) × ((file : List ℕ) × MakesDop form file held written)
ConvertsDopTo o form left held written (Err stop) = IfSome left (λ file. StartsDop o form file held written)

-- the same of an input that was looked through, and has this outline
abbrev pub ScannedComesTo : DopOutline → Form → List ℕ → List ℕ → View → View → Result (Unit {0}) DopConvertFault → Type 0
ScannedComesTo o form input output old new came = ScansRead input old o → ConvertDopComesTo form input output old new came
