-- What becomes of a file that another is played to between its neighbours, so that it names the loudspeakers of its
-- channels.
use Rattle.std.specs.Prelude.{◌≡◌, ◌⊎◌, ℕ, ◌*◌, ◌/◌, Bool, List, length, IsTrue, Option, Some, Result, Ok, Err}
use Rattle.std.specs.Io.KnownBytes.{prepend_known}
use Rattle.dsd_bits.specs.declared.sound.Sound.{Sound}
use Rattle.fir_core.specs.Decimator.{Decimator}
use Rattle.folder_core.specs.Files.{IsGiven, IsPut, IsReadOf, KeepsOthers, OpensAs, View}
use Rattle.player_core.specs.Between.{PlaysBetween}
use Rattle.player_core.specs.Groups.{part_size}
use Rattle.request_core.specs.Projects.{SaysDecimator}
use Rattle.request_core.specs.declared.fault.Fault as calls
use Rattle.request_core.specs.declared.fault.Fault.TheVariants.{Memory}
use Rattle.speaker_core.specs.Reordered.{reordered_known, reordering_groups, reordering_order, reordering_size}
use Rattle.speaker_core.specs.Reordering.{NamesChannels, channels_in, groups_in}
use Rattle.speaker_core.specs.Speakers.{moved_groups}
use Rattle.speaker_core.specs.declared.speakers.Speakers.{Speakers}
use Rattle.transfer_commands.specs.BetweenPlaying.{FaultsBetween, IsBetweenRefused, IsBetweenUnwritten, IsNextRefused, LeavesPrefixBetween, edge_channels}
use Rattle.transfer_commands.specs.Neighbours.{AreChannelsOf, AreHeard, EndsBefore, IsRefusedNeighbour}
use Rattle.transfer_commands.specs.PartPlaying.{DescribesRead}
use Rattle.transfer_commands.specs.Renaming.{left_parts}
use Rattle.transfer_commands.specs.Speaking.{AreSpeakersOf, IsOrdered, NamesOrdered, in_order, with_order}
use Rattle.transfer_commands.specs.declared.between.BetweenFault.{BetweenFault}
use Rattle.transfer_commands.specs.declared.between.BetweenFault.TheVariants.{Command, Next, Previous}
use Rattle.transfer_commands.specs.declared.between.Edges.{Edges}
use Rattle.transfer_commands.specs.declared.between.NeighbourNames.{NeighbourNames}
use Rattle.transfer_commands.specs.declared.between_speakers.SpokenBetween.{SpokenBetween}
use Rattle.transfer_commands.specs.declared.fault.CommandFault.{CommandFault}
use Rattle.transfer_commands.specs.declared.fault.CommandFault.TheVariants.{Call, ReadFailed, WriteFailed}
use Rattle.transfer_commands.specs.declared.speaking.PlayedSpeakers.{PlayedSpeakers}
use Rattle.wave_core.specs.Heads.{head_of}
use Rattle.wave_core.specs.declared.head.WaveHead.{WaveHead}

-- ---- a file that was opened to be played like this
-- sound bytes with a byte of each channel in turn, the channels in an order
abbrev pub frames_in : List ℕ → List ℕ → List ℕ
frames_in order bytes = groups_in order 1 (moved_groups order (length bytes / length order)) bytes

-- the bytes that are left of it, if they are known, with the channels of its sound in their order
abbrev pub ordered_parts : {R : Type 0} → (R → Option (List ℕ)) → SpokenBetween R → Option (List ℕ)
ordered_parts left spoken = prepend_known spoken.parts.head.items (reordered_known (reordering_order spoken.reordering) (reordering_size spoken.reordering) (reordering_groups spoken.reordering) (prepend_known spoken.parts.tail.items (left spoken.parts.file)))

-- that order of the channels of its sound
abbrev pub parts_order : {R : Type 0} → SpokenBetween R → List ℕ → List ℕ
parts_order spoken = with_order (reordering_order spoken.reordering) (reordering_size spoken.reordering) (reordering_groups spoken.reordering) (length spoken.parts.head.items)

-- what was kept of neighbours, with the channels in an order
pub record AreOrdered (order : List ℕ) (e ordered : Edges) : Type 0 where
  pub rate_is : ordered.rate ≡ e.rate
  pub channels_are : ordered.channels ≡ e.channels
  pub before_is : ordered.before.items ≡ frames_in order e.before.items
  pub after_is : ordered.after.items ≡ frames_in order e.after.items

-- a file is to be played from the start of its sound on, by the loudspeakers of a recording; what was kept of its
-- neighbours comes in the same order
pub record IsSpokenBetween {R : Type 0} (e : Edges) (speakers : Speakers) (is_wide : Bool) (s : Sound) (spoken : SpokenBetween R) : Type 0 where
  pub head_is : spoken.head ≡ head_of is_wide speakers.mask
  pub number : length speakers.order.items ≡ s.channels
  pub names : NamesChannels speakers.order.items
  pub are_ordered : AreOrdered speakers.order.items e spoken.edges
  pub order_is : reordering_order spoken.reordering ≡ speakers.order.items
  pub size_is : reordering_size spoken.reordering ≡ part_size s.interleaving
  pub groups_are : reordering_groups spoken.reordering ≡ moved_groups speakers.order.items (s.size / (s.channels * part_size s.interleaving))
  pub start_is : length spoken.parts.head.items ≡ s.start

-- the output has `count` bytes now: the WAVE file of the frames whose place lies in the input, its channels in an order,
-- of the recording that it makes with these channels; no other file changed
pub record SpeaksBetween (head : WaveHead) (d : Decimator) (rate : ℕ) (before after : List (List Bool)) (order : List ℕ → List ℕ) (input output : List ℕ) (old new : View) (count : ℕ) : Type 0 where
  pub spoken : List ℕ
  pub bytes : List ℕ
  pub is_ordered : IsOrdered old input order spoken
  pub plays : PlaysBetween head d rate before after spoken bytes
  pub output_put : IsPut new output bytes
  pub counted : count ≡ length bytes
  pub others : KeepsOthers output old new

-- a fault that applies ended the playing; an old file is kept, or there was none and a prefix of what was due is there,
-- and no other file changed
pub record StopsSpokenBetween (head : WaveHead) (d : Decimator) (e : Edges) (order : List ℕ → List ℕ) (input output : List ℕ) (old new : View) (fault : calls.Fault) : Type 0 where
  pub ended : IsTrue old.is_known → (file : List ℕ) × OpensAs old input file × LeavesPrefixBetween head d e.rate (edge_channels e e.before.items) (edge_channels e e.after.items) (order file) output old new × FaultsBetween (Some (order file)) head d e fault
  pub named : NamesOrdered old input order fault
  pub others : KeepsOthers output old new

-- how playing it to an empty file ends
abbrev pub SpokenBetweenComesTo : WaveHead → Decimator → Edges → (List ℕ → List ℕ) → List ℕ → List ℕ → View → View → Result ℕ CommandFault → Type 0
SpokenBetweenComesTo head d e order input output old new (Ok count) = SpeaksBetween head d e.rate (edge_channels e e.before.items) (edge_channels e e.after.items) order input output old new count
SpokenBetweenComesTo head d e order input output old new (Err (Call fault)) = StopsSpokenBetween head d e order input output old new fault
SpokenBetweenComesTo head d e order input output old new (Err WriteFailed) = KeepsOthers output old new × (new.file output ≡ old.file output)
SpokenBetweenComesTo head d e order input output old new (Err ReadFailed) = ⊥

-- the same of a file that is played, whichever name it was opened under
abbrev pub SpeechBetweenComesTo : {R : Type 0} → (R → Option (List ℕ)) → Decimator → SpokenBetween R → List ℕ → View → View → Result ℕ CommandFault → Type 0
SpeechBetweenComesTo left d spoken output old new came = (input : List ℕ) → IsGiven old input (left_parts left spoken.parts)
    → SpokenBetweenComesTo spoken.head d spoken.edges (parts_order spoken) input output old new came

-- ---- the files
-- the output is now the WAVE file of the frames whose place lies in the input, of the recording that it makes with its
-- neighbours: its header has the mask of the input's loudspeakers, and the channels of all three come in the order of the
-- mask's bits; its size and the mask are what was returned; no other file changed
pub record SpeaksBetweenFiles (is_wide : Bool) (project_name file_name output_name : List ℕ) (around : NeighbourNames) (old new : View) (played : PlayedSpeakers) : Type 0 where
  pub project : List ℕ
  pub decimator : Decimator
  pub speakers : Speakers
  pub sound : Sound
  pub before : List (List Bool)
  pub after : List (List Bool)
  pub project_read : IsReadOf old project_name project
  pub project_says : SaysDecimator project decimator
  pub mask_is : played.mask ≡ speakers.mask
  pub are_speakers : AreSpeakersOf file_name old speakers
  pub described : DescribesRead file_name old sound
  pub before_are : AreChannelsOf around.previous old sound.rate before
  pub after_are : AreChannelsOf around.next old sound.rate after
  pub speaks : SpeaksBetween (head_of is_wide speakers.mask) decimator sound.rate (channels_in speakers.order.items before) (channels_in speakers.order.items after) (in_order speakers.order.items sound) file_name output_name old new played.size

-- the neighbours were read, and a fault that applies ended the playing of all three in the order of the input's
-- loudspeakers; an old output is kept, and no other file changed
pub record LeavesSpokenBetween (is_wide : Bool) (project_name file_name output_name : List ℕ) (around : NeighbourNames) (old new : View) (fault : calls.Fault) : Type 0 where
  pub project : List ℕ
  pub decimator : Decimator
  pub speakers : Speakers
  pub sound : Sound
  pub edges : Edges
  pub ordered : Edges
  pub project_read : IsReadOf old project_name project
  pub project_says : SaysDecimator project decimator
  pub are_speakers : AreSpeakersOf file_name old speakers
  pub described : DescribesRead file_name old sound
  pub heard : AreHeard around old sound decimator edges
  pub are_ordered : AreOrdered speakers.order.items edges ordered
  pub stops : StopsSpokenBetween (head_of is_wide speakers.mask) decimator ordered (in_order speakers.order.items sound) file_name output_name old new fault

-- the folder before and after the input was played to the output between its neighbours came to this
abbrev pub SpeakBetweenComesTo : Bool → List ℕ → List ℕ → List ℕ → NeighbourNames → View → View → Result PlayedSpeakers BetweenFault → Type 0
SpeakBetweenComesTo is_wide project input output around old new (Ok played) = SpeaksBetweenFiles is_wide project input output around old new played
SpeakBetweenComesTo is_wide project input output around old new (Err (Command (Call fault))) = ((new ≡ old) × (fault ≡ Memory)) ⊎ (IsBetweenRefused project input old new fault ⊎ LeavesSpokenBetween is_wide project input output around old new fault)
SpeakBetweenComesTo is_wide project input output around old new (Err (Command ReadFailed)) = new ≡ old
SpeakBetweenComesTo is_wide project input output around old new (Err (Command WriteFailed)) = IsBetweenUnwritten project output around old new
SpeakBetweenComesTo is_wide project input output around old new (Err (Previous fault)) = IsRefusedNeighbour EndsBefore around.previous input old fault × (new ≡ old)
SpeakBetweenComesTo is_wide project input output around old new (Err (Next fault)) = IsNextRefused input around old new fault
