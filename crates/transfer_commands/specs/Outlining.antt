-- What is known of a file of a folder without its sound.
use Rattle.std.specs.Prelude.{◌≡◌, ◌⊎◌, ℕ, List, Option, IfSome, Err, ⊤}
use Rattle.form_core.specs.Opening.{opened_of}
use Rattle.form_core.specs.declared.fault.ReadFault.{ReadFault}
use Rattle.sound_core.specs.Outlines.{AreAround, AreStated, around_of}
use Rattle.sound_core.specs.declared.outline.Outline.{Outline}
use Rattle.request_core.specs.Faults.{fault_of_file}
use Rattle.request_core.specs.declared.fault.Fault as calls
use Rattle.request_core.specs.declared.fault.Fault.TheVariants.{Memory}
use Rattle.folder_core.specs.Files.{IsReadOf, View}
use Rattle.transfer_commands.specs.declared.fault.CommandFault.{CommandFault}
use Rattle.transfer_commands.specs.declared.fault.CommandFault.TheVariants.{Call, ReadFailed, WriteFailed}
use Rattle.transfer_commands.specs.Reporting.{IsUnreported}

-- the file is this outline with some sound, and the outline describes what it holds
pub record IsOutlined (file : List ℕ) (outline : Outline) : Type 0 where
  pub reported : AreStated (around_of outline)
  pub around : AreAround (around_of outline) file

-- the outline is that of bytes that were read of a name
pub record OutlinesRead (file_name : List ℕ) (old : View) (outline : Outline) : Type 0 where
  pub file : List ℕ
  pub file_read : IsReadOf old file_name file
  pub is_outline : IsOutlined file outline

-- the outline describes what a file holds; the reader's file, if it is known, is some sound in it, and so are some
-- bytes otherwise
pub record OutlinesLeft (left : Option (List ℕ)) (outline : Outline) : Type 0 where
  pub reported : AreStated (around_of outline)
  pub known : IfSome left (AreAround (around_of outline))
  pub some : (file : List ℕ) × AreAround (around_of outline) file

-- a file was not read: it could not be, or memory ran out
abbrev pub IsUnread : CommandFault → Type 0
IsUnread (Call Memory) = ⊤
IsUnread ReadFailed = ⊤
IsUnread _ = ⊥

-- a file was not read, or bytes that were read of it hold no recording for this fault
abbrev pub IsUnoutlined : List ℕ → View → CommandFault → Type 0
IsUnoutlined file_name old (Call fault) = (fault ≡ Memory) ⊎ IsUnreported file_name old fault
IsUnoutlined file_name old ReadFailed = ⊤
IsUnoutlined file_name old WriteFailed = ⊥

-- this is the first fault of a reader's file, if that is known, and of some bytes
abbrev pub IsFirstFault : Option (List ℕ) → ReadFault → Type 0
IsFirstFault left cause = IfSome left (λ file. opened_of file ≡ Err cause) × ((file : List ℕ) × (opened_of file ≡ Err cause))

-- a reader's file holds no recording for this fault
pub record IsUnopenedLeft (left : Option (List ℕ)) (fault : calls.Fault) : Type 0 where
  pub cause : ReadFault
  pub first : IsFirstFault left cause
  pub named : fault ≡ fault_of_file cause

-- a reader's file was not read, or it holds no recording for this fault
abbrev pub IsUnoutlinedLeft : Option (List ℕ) → CommandFault → Type 0
IsUnoutlinedLeft left (Call fault) = (fault ≡ Memory) ⊎ IsUnopenedLeft left fault
IsUnoutlinedLeft left ReadFailed = ⊤
IsUnoutlinedLeft left WriteFailed = ⊥
