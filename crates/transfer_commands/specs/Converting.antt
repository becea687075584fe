-- How a folder changes if one of its files is converted to another.
use Rattle.std.specs.Prelude.{◌≡◌, ℕ, List, Option, IsTrue, ◌⊎◌, Result, Ok, Err}
use Rattle.request_core.specs.declared.fault.Fault as calls
use Rattle.request_core.specs.declared.fault.Fault.TheVariants.{Memory}
use Rattle.sound_core.specs.Outlines.{around_of}
use Rattle.sound_core.specs.declared.outline.Outline.{Outline}
use Rattle.transfer_core.specs.Conversions.{ConversionApplies, ConvertsPrefix, ConvertsReader}
use Rattle.transfer_core.specs.Converting.{Converts, Keeps, KeepsAll, KeepsSound, converted_of}
use Rattle.form_core.specs.Steps.{FailsUnless}
use Rattle.form_core.specs.declared.form.Form.{Form}
use Rattle.folder_core.specs.Files.{HadNone, IsPut, IsPutInPart, IsReadOf, KeepsOthers, View}
use Rattle.transfer_commands.specs.Outlining.{OutlinesRead}
use Rattle.transfer_commands.specs.declared.fault.CommandFault.{CommandFault}
use Rattle.transfer_commands.specs.declared.fault.CommandFault.TheVariants.{Call, ReadFailed, WriteFailed}

-- the output now holds what bytes that were read of a recording's file are converted to, which leaves out `dropped`
-- parts of it; it keeps the sound, and all of the recording if it leaves out none; no other file changed
pub record ConvertsFile (form : Form) (file_name output_name : List ℕ) (old new : View) (dropped : ℕ) : Type 0 where
  pub file : List ℕ
  pub bytes : List ℕ
  pub file_read : IsReadOf old file_name file
  pub output_put : IsPut new output_name bytes
  pub others : KeepsOthers output_name old new
  pub converts : Converts file form bytes dropped
  pub kept : KeepsSound file form bytes
  pub whole : dropped ≡ 0 → KeepsAll file form bytes

-- the output is unchanged, or no old file had to be kept
abbrev pub KeepsOld : List ℕ → View → View → Type 0
KeepsOld name old new = IsTrue old.is_known → (new.file name ≡ old.file name) ⊎ HadNone name old

-- the output is unchanged, or holds a prefix of what bytes that were read of a recording's file are converted to, if
-- the bytes of the last reading are the same; an old output is kept, and no other file changed
pub record LeavesConvertedPrefix (form : Form) (file_name output_name : List ℕ) (old new : View) : Type 0 where
  pub file : List ℕ
  pub last : List ℕ
  pub bytes : List ℕ
  pub dropped : ℕ
  pub file_read : IsReadOf old file_name file
  pub last_read : IsReadOf old file_name last
  pub converts : Converts file form bytes dropped
  pub prefix : last ≡ file → IsPutInPart output_name old new bytes
  pub kept : KeepsOld output_name old new
  pub others : KeepsOthers output_name old new

-- this is the first fault of converting bytes that were read of a recording's file
pub record IsUnconverted (form : Form) (file_name : List ℕ) (old : View) (fault : calls.Fault) : Type 0 where
  pub file : List ℕ
  pub file_read : IsReadOf old file_name file
  pub first : FailsUnless Memory fault (converted_of file form)

-- nothing changed, or the output holds at most a prefix
abbrev pub ConvertsInPart : Form → List ℕ → List ℕ → View → View → Type 0
ConvertsInPart form input output old new = (new ≡ old) ⊎ LeavesConvertedPrefix form input output old new

-- how converting the input to the output changes the folder
abbrev pub ConvertComesTo : Form → List ℕ → List ℕ → View → View → Result ℕ CommandFault → Type 0
ConvertComesTo form input output old new (Ok dropped) = ConvertsFile form input output old new dropped
ConvertComesTo form input output old new (Err (Call Memory)) = ConvertsInPart form input output old new
ConvertComesTo form input output old new (Err (Call fault)) = (new ≡ old) × IsUnconverted form input old fault
ConvertComesTo form input output old new (Err ReadFailed) = ConvertsInPart form input output old new
ConvertComesTo form input output old new (Err WriteFailed) = LeavesConvertedPrefix form input output old new

-- the same of a file that was held, whichever name it was read under
abbrev pub HeldComesTo : List ℕ → Form → List ℕ → View → View → Result ℕ CommandFault → Type 0
HeldComesTo file form output old new came = (input : List ℕ) → IsReadOf old input file → ConvertComesTo form input output old new came

-- the same of an input that was read through, and has this outline
abbrev pub OutlinedComesTo : Outline → Form → List ℕ → List ℕ → View → View → Result ℕ CommandFault → Type 0
OutlinedComesTo outline form input output old new came = OutlinesRead input old outline → ConvertComesTo form input output old new came

-- ---- a reader's file
-- some bytes are converted to the form and kept, and this many parts of them have no place in it
abbrev pub ConvertsSome : Form → ℕ → Type 0
ConvertsSome form dropped = (file : List ℕ) × (bytes : List ℕ) × Converts file form bytes dropped × Keeps file form bytes dropped

-- how converting a reader's file with this outline to a writer ends: its conversion was written; or a fault is so, and
-- what was written is a prefix
abbrev pub ConvertsTo : Outline → Form → Option (List ℕ) → Option (List ℕ) → Option (List ℕ) → Result ℕ calls.Fault → Type 0
ConvertsTo outline form left held written (Ok dropped) = ConvertsReader left form held written dropped × ConvertsSome form dropped
ConvertsTo outline form left held written (Err fault) = ConvertsPrefix left (around_of outline) form held written × ConversionApplies left (around_of outline) form fault
