-- How a folder changes if one of its files is played to another.
use Rattle.std.specs.Prelude.{◌≡◌, ℕ, List, [], ◌++◌, length, IsTrue, Option, Some, ◌⊎◌, Result, Ok, Err}
use Rattle.std.specs.Io.KnownBytes.{prepend_known}
use Rattle.form_core.specs.Opening.{opened_of}
use Rattle.player_core.specs.Playing.{PlaysFile, WritesPrefix}
use Rattle.player_core.specs.Ranges.{whole_range}
use Rattle.player_core.specs.declared.range.WaveRange.{WaveRange}
use Rattle.request_core.specs.declared.fault.Fault as calls
use Rattle.request_core.specs.declared.fault.Fault.TheVariants.{Memory}
use Rattle.request_core.specs.Faults.{IfNamed}
use Rattle.transfer_core.specs.Playing.{Plays}
use Rattle.transfer_core.specs.Streaming.{FailsBeforeWriting, OnlyFromOutside, PlaysRange, StreamApplies}
use Rattle.folder_core.specs.Files.{OpensAs, HadNone, IsGiven, IsPut, IsReadOf, KeepsOthers, View}
use Rattle.transfer_commands.specs.Gaps.{AreNotNeeded}
use Rattle.transfer_commands.specs.Outlining.{IsFirstFault}
use Rattle.transfer_commands.specs.declared.fault.CommandFault.{CommandFault}
use Rattle.transfer_commands.specs.declared.fault.CommandFault.TheVariants.{Call, ReadFailed, WriteFailed}
use Rattle.transfer_commands.specs.declared.playing.Source.{Source}

-- the output now holds `count` bytes, which bytes that were read of the project play of those that were read of a
-- recording's file; no other file changed
pub record PlaysFiles (project_name file_name output_name : List ℕ) (old new : View) (count : ℕ) : Type 0 where
  pub project : List ℕ
  pub file : List ℕ
  pub bytes : List ℕ
  pub project_read : IsReadOf old project_name project
  pub file_read : IsReadOf old file_name file
  pub output_put : IsPut new output_name bytes
  pub others : KeepsOthers output_name old new
  pub plays : Plays project file bytes
  pub counted : count ≡ length bytes

-- a file that was given up holds a prefix of what project and file play of a range, if they play anything, and nothing
-- if the fault comes before the first write
pub record HoldsPlayed (project : List ℕ) (range : WaveRange) (file : List ℕ) (fault : calls.Fault) (held : Option (List ℕ)) : Type 0 where
  pub prefix : (bytes : List ℕ) → PlaysRange project range file bytes → (prefix : List ℕ) × (rest : List ℕ) × (held ≡ Some prefix) × (bytes ≡ prefix ++ rest)
  pub none : FailsBeforeWriting fault → held ≡ Some []

-- the output is unchanged, or no old one had to be kept and it holds such a prefix
abbrev pub LeavesPrefix : List ℕ → WaveRange → List ℕ → calls.Fault → List ℕ → View → View → Type 0
LeavesPrefix project range file fault output old new = (new.file output ≡ old.file output) ⊎ (HoldsPlayed project range file fault (new.file output) × HadNone output old)

-- a fault ended the playing of a file, and it is right; a file that can be played is refused only for memory, a device
-- or the number of reads
pub record EndsPlaying (project : List ℕ) (range : WaveRange) (file output_name : List ℕ) (old new : View) (fault : calls.Fault) : Type 0 where
  pub stands : StreamApplies (Some file) project range fault
  pub outside : OnlyFromOutside (Some file) project range fault
  pub prefix : LeavesPrefix project range file fault output_name old new

-- a fault that names the first one of a file names that of bytes that were read of it
abbrev pub NamesRead : List ℕ → View → calls.Fault → Type 0
NamesRead file_name old fault = IfNamed fault (λ cause. (file : List ℕ) × IsReadOf old file_name file × (opened_of file ≡ Err cause))

-- the same for bytes that openings of the project and of a file give, if the folder's bytes are known
pub record LeavesOutput (project_name file_name output_name : List ℕ) (old new : View) (fault : calls.Fault) : Type 0 where
  pub project : List ℕ
  pub project_read : IsReadOf old project_name project
  pub ended : IsTrue old.is_known → (file : List ℕ) × OpensAs old file_name file × EndsPlaying project whole_range file output_name old new fault
  pub named : NamesRead file_name old fault
  pub others : KeepsOthers output_name old new

-- how playing a file that was opened under a name to an empty one ends: it is handed back, or given up after a fault
abbrev pub PlayedComesTo : List ℕ → WaveRange → List ℕ → List ℕ → View → View → Result ℕ CommandFault → Type 0
PlayedComesTo project range input output old new (Ok count) = (file : List ℕ) × (bytes : List ℕ) × IsReadOf old input file × IsPut new output bytes × PlaysRange project range file bytes × (count ≡ length bytes) × KeepsOthers output old new
PlayedComesTo project range input output old new (Err (Call fault)) = (IsTrue old.is_known → (file : List ℕ) × OpensAs old input file × EndsPlaying project range file output old new fault) × NamesRead input old fault × KeepsOthers output old new
PlayedComesTo project range input output old new (Err WriteFailed) = KeepsOthers output old new × (new.file output ≡ old.file output)
PlayedComesTo project range input output old new (Err ReadFailed) = ⊥

-- the bytes of a file from its start: those that were read, and those that it has left
abbrev pub left_in : {R : Type 0} → (R → Option (List ℕ)) → Source R → Option (List ℕ)
left_in left source = prepend_known source.prefix.items (left source.file)

-- the gaps of a file that is played are not needed for its range
abbrev pub IsEnough : {R : Type 0} → Source R → Type 0
IsEnough source = AreNotNeeded source.project.now source.range source.prefix.items source.gaps

-- the same of a file that is played, whichever name it was opened under
abbrev pub SourceComesTo : {R : Type 0} → (R → Option (List ℕ)) → Source R → List ℕ → View → View → Result ℕ CommandFault → Type 0
SourceComesTo left source output old new came = (input : List ℕ) → IsGiven old input (left_in left source) → PlayedComesTo source.project.now source.range input output old new came

-- project and recording were opened, but the output was not created, written or kept: it is as it was, and so is each
-- other file
pub record IsUnwritten (project_name file_name output_name : List ℕ) (old new : View) : Type 0 where
  pub project : List ℕ
  pub file : List ℕ
  pub project_read : IsReadOf old project_name project
  pub file_read : IsReadOf old file_name file
  pub same : new.file output_name ≡ old.file output_name
  pub others : KeepsOthers output_name old new

-- how playing the input to the output by the project changes the folder
abbrev pub PlayComesTo : List ℕ → List ℕ → List ℕ → View → View → Result ℕ CommandFault → Type 0
PlayComesTo project input output old new (Ok count) = PlaysFiles project input output old new count
PlayComesTo project input output old new (Err (Call fault)) = ((new ≡ old) × (fault ≡ Memory)) ⊎ LeavesOutput project input output old new fault
PlayComesTo project input output old new (Err ReadFailed) = new ≡ old
PlayComesTo project input output old new (Err WriteFailed) = IsUnwritten project input output old new

-- ---- a reader's file
-- some bytes play n bytes of a range
abbrev pub PlaysSome : List ℕ → WaveRange → ℕ → Type 0
PlaysSome project range n = (read : List ℕ) × (bytes : List ℕ) × PlaysRange project range read bytes × (n ≡ length bytes)

-- a reader's file was played, if it is known, and some bytes otherwise: its WAVE file of n bytes was written
pub record WritesRange (project : List ℕ) (range : WaveRange) (left held written : Option (List ℕ)) (n : ℕ) : Type 0 where
  pub plays : PlaysFile left (PlaysRange project range) held written n
  pub some : PlaysSome project range n

-- a fault ended the playing of a reader's file, and is right: what was written is a prefix, or nothing if it comes
-- before the first write
pub record StopsRange (project : List ℕ) (range : WaveRange) (left held written : Option (List ℕ)) (fault : calls.Fault) : Type 0 where
  pub stands : StreamApplies left project range fault
  pub named : IfNamed fault (IsFirstFault left)
  pub outside : OnlyFromOutside left project range fault
  pub prefix : WritesPrefix left (PlaysRange project range) held written
  pub none : FailsBeforeWriting fault → written ≡ held

-- how playing a reader's file to a writer ends
abbrev pub PlaysTo : {W : Type 0} → (W → Option (List ℕ)) → List ℕ → WaveRange → Option (List ℕ) → W → W → Result ℕ calls.Fault → Type 0
PlaysTo held project range left old new (Ok n) = WritesRange project range left (held old) (held new) n
PlaysTo held project range left old new (Err fault) = StopsRange project range left (held old) (held new) fault
