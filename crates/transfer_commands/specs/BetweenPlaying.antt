-- What a folder comes to where one of its files is played to another, between its neighbours.
use Rattle.std.specs.Prelude.{◌≡◌, ◌≢◌, ◌⊎◌, ℕ, ◌%◌, Bool, List, ◌++◌, length, IsTrue, Option, Some, IfSome, Result, Ok, Err, ⊤}
use Rattle.dsd_bits.specs.Lacing.{unlaced_all}
use Rattle.dsd_bits.specs.declared.sound.Sound.{Sound}
use Rattle.fir_core.specs.Decimator.{Decimator}
use Rattle.folder_core.specs.Files.{HadNone, IsGiven, IsPut, IsReadOf, KeepsOthers, OpensAs, View}
use Rattle.form_core.specs.Opening.{opened_of}
use Rattle.form_core.specs.Steps.{FailsUnless}
use Rattle.player_core.specs.Between.{AppliesBetweenBy, PlaysBetween}
use Rattle.player_core.specs.Playing.{PlaysFile, WritesPrefix}
use Rattle.player_core.specs.declared.joining.Neighbours.{Neighbours}
use Rattle.request_core.specs.declared.fault.Fault as calls
use Rattle.request_core.specs.declared.fault.Fault.TheVariants.{Memory, NotWholeBytes}
use Rattle.request_core.specs.Faults.{IfNamed, OfUnread}
use Rattle.request_core.specs.Projects.{SaysDecimator, decimator_of_text}
use Rattle.sound_core.specs.Naming.{IfRefusedAs, plain}
use Rattle.sound_core.specs.declared.fault.Unread.{Unread}
use Rattle.transfer_commands.specs.Neighbours.{AreChannelsOf, AreHeard, EndsAfter, EndsBefore, IsRefusedNeighbour}
use Rattle.transfer_commands.specs.Opening.{left_of}
use Rattle.transfer_commands.specs.Outlining.{IsFirstFault}
use Rattle.transfer_commands.specs.PartPlaying.{DescribesRead}
use Rattle.transfer_commands.specs.Playing.{NamesRead}
use Rattle.transfer_commands.specs.Reporting.{IsUnreported}
use Rattle.transfer_commands.specs.declared.between.BetweenFault.{BetweenFault}
use Rattle.transfer_commands.specs.declared.between.BetweenFault.TheVariants.{Command, Next, Previous}
use Rattle.transfer_commands.specs.declared.between.Edges.{Edges}
use Rattle.transfer_commands.specs.declared.between.NeighbourNames.{NeighbourNames}
use Rattle.transfer_commands.specs.declared.fault.CommandFault.{CommandFault}
use Rattle.transfer_commands.specs.declared.fault.CommandFault.TheVariants.{Call, ReadFailed, WriteFailed}
use Rattle.transfer_commands.specs.declared.neighbour.NeighbourFault.{NeighbourFault}
use Rattle.transfer_commands.specs.declared.opened.OpenedFile.{OpenedFile}
use Rattle.wave_core.specs.declared.head.WaveHead.{WaveHead}

-- ---- the recording that is played
-- why it isn't: it holds no recording, or doesn't end with a whole byte of each channel
abbrev pub IsNotBetween : List ℕ → View → calls.Fault → Type 0
IsNotBetween input old fault = IsUnreported input old fault ⊎ ((fault ≡ NotWholeBytes) × ((s : Sound) × DescribesRead input old s × (s.count % 8 ≢ 0)))

-- the same, or it isn't read, or memory runs out
abbrev pub IsNotOpened : List ℕ → View → CommandFault → Type 0
IsNotOpened input old (Call fault) = (fault ≡ Memory) ⊎ IsNotBetween input old fault
IsNotOpened input old ReadFailed = ⊤
IsNotOpened input old WriteFailed = ⊥

-- ---- the files
-- the output holds `count` bytes now: the WAVE file with this head of the frames whose place lies in the input, of the
-- recording that it makes with its neighbours; no other file changed
pub record PlaysBetweenFiles (head : WaveHead) (project_name file_name output_name : List ℕ) (around : NeighbourNames) (old new : View) (count : ℕ) : Type 0 where
  pub project : List ℕ
  pub decimator : Decimator
  pub file : List ℕ
  pub bytes : List ℕ
  pub rate : ℕ
  pub before : List (List Bool)
  pub after : List (List Bool)
  pub project_read : IsReadOf old project_name project
  pub project_says : SaysDecimator project decimator
  pub before_are : AreChannelsOf around.previous old rate before
  pub after_are : AreChannelsOf around.next old rate after
  pub file_read : IsReadOf old file_name file
  pub plays : PlaysBetween head decimator rate before after file bytes
  pub output_put : IsPut new output_name bytes
  pub counted : count ≡ length bytes
  pub others : KeepsOthers output_name old new

-- a text was read of the project, and this is its first fault, or that of the input; nothing changed
pub record IsBetweenRefused (project_name file_name : List ℕ) (old new : View) (fault : calls.Fault) : Type 0 where
  pub project : List ℕ
  pub project_read : IsReadOf old project_name project
  pub why : FailsUnless Memory fault (decimator_of_text project) ⊎ IsNotBetween file_name old fault
  pub same : new ≡ old

-- a file is unchanged, or no old one had to be kept and it holds a prefix of what is played of a recording between its
-- neighbours, if anything is
abbrev pub LeavesPrefixBetween : WaveHead → Decimator → ℕ → List (List Bool) → List (List Bool) → List ℕ → List ℕ → View → View → Type 0
LeavesPrefixBetween head d rate before after file output old new = (new.file output ≡ old.file output)
    ⊎ (((bytes : List ℕ) → PlaysBetween head d rate before after file bytes → (prefix : List ℕ) × (rest : List ℕ) × (new.file output ≡ Some prefix) × (bytes ≡ prefix ++ rest)) × HadNone output old)

-- the sound bytes of neighbours are these that were kept of them
pub record AreKept (e : Edges) (around : Neighbours) : Type 0 where
  pub rate : around.rate ≡ e.rate
  pub channels : around.channels ≡ e.channels
  pub before : around.before.now ≡ e.before.items
  pub after : around.after.now ≡ e.after.items

-- an answer is right for a reader's file between its neighbours, if it is known: its fault applies, and one that is named
-- is the file's first
pub record UnreadBetween (left : Option (List ℕ)) (head : WaveHead) (d : Decimator) (e : Edges) (u : Unread) : Type 0 where
  pub around : Neighbours
  pub are_kept : AreKept e around
  pub applies : AppliesBetweenBy left head d around (plain u)
  pub first : IfSome left (λ file. IfRefusedAs u (λ fault. opened_of file ≡ Err fault))

-- this fault is right for a reader's file between what was kept of its neighbours
abbrev pub FaultsBetween : Option (List ℕ) → WaveHead → Decimator → Edges → calls.Fault → Type 0
FaultsBetween left head d e fault = OfUnread (UnreadBetween left head d e) fault

-- the neighbours were read, and a fault that applies ended the playing: the output has such a prefix, and no other file
-- changed
pub record LeavesBetween (head : WaveHead) (project_name file_name output_name : List ℕ) (around : NeighbourNames) (old new : View) (fault : calls.Fault) : Type 0 where
  pub project : List ℕ
  pub decimator : Decimator
  pub rate : ℕ
  pub before : List (List Bool)
  pub after : List (List Bool)
  pub project_read : IsReadOf old project_name project
  pub project_says : SaysDecimator project decimator
  pub before_are : AreChannelsOf around.previous old rate before
  pub after_are : AreChannelsOf around.next old rate after
  pub sound : Sound
  pub edges : Edges
  pub described : DescribesRead file_name old sound
  pub heard : AreHeard around old sound decimator edges
  pub ended : IsTrue old.is_known → (file : List ℕ) × OpensAs old file_name file × LeavesPrefixBetween head decimator rate before after file output_name old new × FaultsBetween (Some file) head decimator edges fault
  pub named : NamesRead file_name old fault
  pub others : KeepsOthers output_name old new

-- the neighbours were read, but the output was not created, written or kept: it is as it was, and so is each other file
pub record IsBetweenUnwritten (project_name output_name : List ℕ) (around : NeighbourNames) (old new : View) : Type 0 where
  pub project : List ℕ
  pub rate : ℕ
  pub before : List (List Bool)
  pub after : List (List Bool)
  pub project_read : IsReadOf old project_name project
  pub before_are : AreChannelsOf around.previous old rate before
  pub after_are : AreChannelsOf around.next old rate after
  pub same : new.file output_name ≡ old.file output_name
  pub others : KeepsOthers output_name old new

-- the file before was read, or none is named, but the one after can't be a neighbour for this fault; nothing changed
pub record IsNextRefused (file_name : List ℕ) (around : NeighbourNames) (old new : View) (fault : NeighbourFault) : Type 0 where
  pub rate : ℕ
  pub before : List (List Bool)
  pub before_are : AreChannelsOf around.previous old rate before
  pub refused : IsRefusedNeighbour EndsAfter around.next file_name old fault
  pub same : new ≡ old

-- the folder before and after the input was played to the output, whose header is written so, between its neighbours by
-- the project came to this
abbrev pub PlayBetweenComesTo : WaveHead → List ℕ → List ℕ → List ℕ → NeighbourNames → View → View → Result ℕ BetweenFault → Type 0
PlayBetweenComesTo head project input output around old new (Ok count) = PlaysBetweenFiles head project input output around old new count
PlayBetweenComesTo head project input output around old new (Err (Command (Call fault))) = ((new ≡ old) × (fault ≡ Memory)) ⊎ (IsBetweenRefused project input old new fault ⊎ LeavesBetween head project input output around old new fault)
PlayBetweenComesTo head project input output around old new (Err (Command ReadFailed)) = new ≡ old
PlayBetweenComesTo head project input output around old new (Err (Command WriteFailed)) = IsBetweenUnwritten project output around old new
PlayBetweenComesTo head project input output around old new (Err (Previous fault)) = IsRefusedNeighbour EndsBefore around.previous input old fault × (new ≡ old)
PlayBetweenComesTo head project input output around old new (Err (Next fault)) = IsNextRefused input around old new fault

-- ---- stages
-- a reader's file was played between these channels, if it is known, and some bytes otherwise: its WAVE file of n bytes
-- was written
pub record WritesBetween (head : WaveHead) (d : Decimator) (rate : ℕ) (before after : List (List Bool)) (left held written : Option (List ℕ)) (n : ℕ) : Type 0 where
  pub plays : PlaysFile left (PlaysBetween head d rate before after) held written n
  pub some : (read : List ℕ) × (bytes : List ℕ) × PlaysBetween head d rate before after read bytes × (n ≡ length bytes)

-- the channels of what was kept
abbrev pub edge_channels : Edges → List ℕ → List (List Bool)
edge_channels e bytes = unlaced_all bytes e.channels

-- what a reader's file plays between what was kept of its neighbours
abbrev pub PlaysKept : WaveHead → Decimator → Edges → List ℕ → List ℕ → Type 0
PlaysKept head d e = PlaysBetween head d e.rate (edge_channels e e.before.items) (edge_channels e e.after.items)

-- a fault that applies ended the playing of a reader's file: what was written is a prefix
pub record StopsBetween (head : WaveHead) (d : Decimator) (e : Edges) (left held written : Option (List ℕ)) (fault : calls.Fault) : Type 0 where
  pub faults : FaultsBetween left head d e fault
  pub named : IfNamed fault (IsFirstFault left)
  pub prefix : WritesPrefix left (PlaysKept head d e) held written

-- how playing a reader's file between what was kept ends
abbrev pub JoinsTo : WaveHead → Decimator → Edges → Option (List ℕ) → Option (List ℕ) → Option (List ℕ) → Result ℕ calls.Fault → Type 0
JoinsTo head d e left held written (Ok n) = WritesBetween head d e.rate (edge_channels e e.before.items) (edge_channels e e.after.items) left held written n
JoinsTo head d e left held written (Err fault) = StopsBetween head d e left held written fault

-- how playing a file that was opened under a name to an empty one, between what was kept of its neighbours, ends: it is
-- handed back, or given up after a fault
abbrev pub JoinedComesTo : WaveHead → Decimator → Edges → List ℕ → List ℕ → View → View → Result ℕ CommandFault → Type 0
JoinedComesTo head d e input output old new (Ok count) = (file : List ℕ) × (bytes : List ℕ) × IsReadOf old input file × IsPut new output bytes × PlaysKept head d e file bytes × (count ≡ length bytes) × KeepsOthers output old new
JoinedComesTo head d e input output old new (Err (Call fault)) = (IsTrue old.is_known → (file : List ℕ) × OpensAs old input file × LeavesPrefixBetween head d e.rate (edge_channels e e.before.items) (edge_channels e e.after.items) file output old new × FaultsBetween (Some file) head d e fault) × NamesRead input old fault × KeepsOthers output old new
JoinedComesTo head d e input output old new (Err WriteFailed) = KeepsOthers output old new × (new.file output ≡ old.file output)
JoinedComesTo head d e input output old new (Err ReadFailed) = ⊥

-- the same of a file that was opened, whichever name that was under
abbrev pub JoinComesTo : {R : Type 0} → (R → Option (List ℕ)) → WaveHead → Decimator → Edges → OpenedFile R → List ℕ → View → View → Result ℕ CommandFault → Type 0
JoinComesTo left head d e opened output old new came = (input : List ℕ) → IsGiven old input (left_of left opened) → JoinedComesTo head d e input output old new came
