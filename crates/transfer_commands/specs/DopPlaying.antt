-- How a folder changes if one of its files is played to another as DoP samples.
use Rattle.std.specs.Prelude.{◌≡◌, ◌⊎◌, ℕ, List, [], ◌++◌, length, IsTrue, Option, Some, Result, Ok, Err}
use Rattle.dop_core.specs.Playing.{DopAppliesBy, DopOnlyFromOutsideBy, DopPlaysFile, DopWritesPrefix, PlaysDop}
use Rattle.folder_core.specs.Files.{HadNone, IsPut, IsReadOf, KeepsOthers, OpensAs, View}
use Rattle.request_core.specs.Faults.{IfNamed, OfUnread}
use Rattle.request_core.specs.declared.fault.Fault as calls
use Rattle.sound_core.specs.Naming.{plain}
use Rattle.transfer_core.specs.Streaming.{FailsBeforeWriting}
use Rattle.transfer_commands.specs.Outlining.{IsFirstFault}
use Rattle.transfer_commands.specs.Playing.{NamesRead}
use Rattle.transfer_commands.specs.declared.fault.CommandFault.{CommandFault}
use Rattle.transfer_commands.specs.declared.fault.CommandFault.TheVariants.{Call, ReadFailed, WriteFailed}

-- the output now holds `count` bytes, which bytes that were read of a recording's file play; no other file changed
pub record PlaysDopFile (file_name output_name : List ℕ) (old new : View) (count : ℕ) : Type 0 where
  pub file : List ℕ
  pub bytes : List ℕ
  pub file_read : IsReadOf old file_name file
  pub output_put : IsPut new output_name bytes
  pub others : KeepsOthers output_name old new
  pub plays : PlaysDop file bytes
  pub counted : count ≡ length bytes

-- a file that was given up holds a prefix of what the file plays, if it plays anything, and nothing if the fault comes
-- before the first write
pub record HoldsDop (file : List ℕ) (fault : calls.Fault) (held : Option (List ℕ)) : Type 0 where
  pub prefix : (bytes : List ℕ) → PlaysDop file bytes → (prefix : List ℕ) × (rest : List ℕ) × (held ≡ Some prefix) × (bytes ≡ prefix ++ rest)
  pub none : FailsBeforeWriting fault → held ≡ Some []

-- a fault ended the playing of a file, and is right; a file that can be played is refused only for memory, a device or
-- the number of reads; the output is unchanged, or no old one had to be kept and it holds such a prefix
pub record EndsDop (file output_name : List ℕ) (old new : View) (fault : calls.Fault) : Type 0 where
  pub stands : OfUnread (λ u. DopAppliesBy (Some file) (plain u)) fault
  pub outside : OfUnread (λ u. DopOnlyFromOutsideBy (Some file) (plain u)) fault
  pub prefix : (new.file output_name ≡ old.file output_name) ⊎ (HoldsDop file fault (new.file output_name) × HadNone output_name old)

-- the same for bytes that an opening of the file gives, if the folder's bytes are known
pub record LeavesDop (file_name output_name : List ℕ) (old new : View) (fault : calls.Fault) : Type 0 where
  pub ended : IsTrue old.is_known → (file : List ℕ) × OpensAs old file_name file × EndsDop file output_name old new fault
  pub named : NamesRead file_name old fault
  pub others : KeepsOthers output_name old new

-- the recording was opened, but the output was not created or kept: it is as it was, and so is each other file
pub record IsDopUnwritten (file_name output_name : List ℕ) (old new : View) : Type 0 where
  pub file : List ℕ
  pub file_read : IsReadOf old file_name file
  pub same : new.file output_name ≡ old.file output_name
  pub others : KeepsOthers output_name old new

-- how playing the input to the output as DoP samples changes the folder
abbrev pub PlayDopComesTo : List ℕ → List ℕ → View → View → Result ℕ CommandFault → Type 0
PlayDopComesTo input output old new (Ok count) = PlaysDopFile input output old new count
PlayDopComesTo input output old new (Err (Call fault)) = LeavesDop input output old new fault
PlayDopComesTo input output old new (Err ReadFailed) = new ≡ old
PlayDopComesTo input output old new (Err WriteFailed) = IsDopUnwritten input output old new

-- ---- a reader's file

-- a reader's file was played, if it is known, and some bytes otherwise: its WAVE file of n bytes was written
pub record WritesDop (left held written : Option (List ℕ)) (n : ℕ) : Type 0 where
  pub plays : DopPlaysFile left held written n
  pub some : (read : List ℕ) × (bytes : List ℕ) × PlaysDop read bytes × (n ≡ length bytes)

-- a fault ended the playing of a reader's file, and is right; a file that can be played is refused only from outside:
-- what was written is a prefix, or nothing if it comes before the first write
pub record StopsDop (left held written : Option (List ℕ)) (fault : calls.Fault) : Type 0 where
  pub stands : OfUnread (λ u. DopAppliesBy left (plain u)) fault
  pub outside : OfUnread (λ u. DopOnlyFromOutsideBy left (plain u)) fault
  pub named : IfNamed fault (IsFirstFault left)
  pub prefix : DopWritesPrefix left held written
  pub none : FailsBeforeWriting fault → written ≡ held

-- how playing a reader's file to a writer ends
abbrev pub DopComesTo : Option (List ℕ) → Option (List ℕ) → Option (List ℕ) → Result ℕ calls.Fault → Type 0
DopComesTo left held written (Ok n) = WritesDop left held written n
DopComesTo left held written (Err fault) = StopsDop left held written fault
