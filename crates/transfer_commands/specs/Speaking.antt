-- What becomes of a file that another is played to so that it names the loudspeakers of its channels.
use Rattle.std.specs.Prelude.{◌≡◌, ◌≢◌, ◌⊎◌, ℕ, ◌*◌, ◌/◌, Bool, true, false, List, ◌++◌, drop, length, take, IsTrue, Option, Result, Ok, Err}
use Rattle.std.specs.Io.KnownBytes.{prepend_known}
use Rattle.dsd_bits.specs.declared.sound.Sound.{Sound}
use Rattle.form_core.specs.Opening.{opened_of}
use Rattle.form_core.specs.declared.form.Form.{Form}
use Rattle.form_core.specs.declared.form.Form.TheVariants as forms
use Rattle.player_core.specs.Groups.{part_size}
use Rattle.player_core.specs.declared.range.WaveRange.{WaveRange}
use Rattle.request_core.specs.Faults.{IfNamed}
use Rattle.request_core.specs.declared.fault.Fault as calls
use Rattle.request_core.specs.declared.fault.Fault.TheVariants.{Memory}
use Rattle.speaker_core.specs.Reordered.{reordered_known, reordering_groups, reordering_order, reordering_size}
use Rattle.speaker_core.specs.Reordering.{groups_in}
use Rattle.speaker_core.specs.Speakers.{channel_speakers, moved_groups, speaker_mask, speaker_order}
use Rattle.speaker_core.specs.declared.speakers.Speakers.{Speakers}
use Rattle.folder_core.specs.Files.{IsGiven, IsPut, IsReadOf, KeepsOthers, OpensAs, View}
use Rattle.wave_core.specs.Heads.{head_of}
use Rattle.transfer_core.specs.Streaming.{PlaysRange, part_range}
use Rattle.transfer_core.specs.declared.spans.Span.{Span}
use Rattle.transfer_commands.specs.PartPlaying.{DescribesRead, FindsSpan, IsPartRefused, IsPartUnwritten, ReportsRead}
use Rattle.transfer_commands.specs.Playing.{EndsPlaying}
use Rattle.transfer_commands.specs.declared.fault.CommandFault.{CommandFault}
use Rattle.transfer_commands.specs.declared.fault.CommandFault.TheVariants.{Call, ReadFailed, WriteFailed}
use Rattle.transfer_commands.specs.declared.parts.PartFault.{PartFault}
use Rattle.transfer_commands.specs.declared.parts.PartFault.TheVariants.{Command, Span as Spans}
use Rattle.transfer_commands.specs.declared.reporting.Reported.{Reported}
use Rattle.transfer_commands.specs.declared.speaking.PlayedSpeakers.{PlayedSpeakers}
use Rattle.transfer_commands.specs.declared.speaking.Spoken.{Spoken}

-- a file of this form has a channel type, and no IDs
abbrev pub has_type : Form → Bool
has_type forms.Dsdiff = false
has_type forms.Dsf = true
has_type forms.Dsf8 = true

-- the channel mask of what is reported of a file
abbrev pub mask_of : Reported → ℕ
mask_of r = speaker_mask (channel_speakers (has_type r.form) r.description.ids r.description.layout)

-- the order of its channels in a WAVE file
abbrev pub order_of : Reported → List ℕ
order_of r = speaker_order (channel_speakers (has_type r.form) r.description.ids r.description.layout)

-- the loudspeakers are those of bytes that were read of a file
pub record AreSpeakersOf (file_name : List ℕ) (old : View) (s : Speakers) : Type 0 where
  pub reported : Reported
  pub reports : ReportsRead file_name old reported
  pub mask : s.mask ≡ mask_of reported
  pub order : s.order.items ≡ order_of reported

-- a file whose first groups of channels after a place come in an order
abbrev pub with_order : List ℕ → ℕ → ℕ → ℕ → List ℕ → List ℕ
with_order order size groups start file = take start file ++ groups_in order size groups (drop start file)

-- a file with the channels of its sound in an order
abbrev pub in_order : List ℕ → Sound → List ℕ → List ℕ
in_order order s file = with_order order (part_size s.interleaving) (moved_groups order (s.size / (s.channels * part_size s.interleaving))) s.start file

-- ---- a file that was opened to be played like this
-- what is left of it, where that is known
abbrev pub left_spoken : {R : Type 0} → (R → Option (List ℕ)) → Spoken R → Option (List ℕ)
left_spoken left spoken = prepend_known spoken.before.items (prepend_known spoken.tail.items (left spoken.file))

-- the same with its channels in their order
abbrev pub ordered_spoken : {R : Type 0} → (R → Option (List ℕ)) → Spoken R → Option (List ℕ)
ordered_spoken left spoken = prepend_known spoken.before.items (reordered_known (reordering_order spoken.reordering) (reordering_size spoken.reordering) (reordering_groups spoken.reordering) (prepend_known spoken.tail.items (left spoken.file)))

-- the bytes that were read of a name, with their channels in an order; of an unknown folder, some bytes
abbrev pub IsOrdered : View → List ℕ → (List ℕ → List ℕ) → List ℕ → Type 0
IsOrdered old input order spoken = IsTrue old.is_known → (file : List ℕ) × OpensAs old input file × (spoken ≡ order file)

-- the output has `count` bytes now: the WAVE file of these frames; no other file changed
pub record SpeaksFile (project : List ℕ) (range : WaveRange) (order : List ℕ → List ℕ) (input output : List ℕ) (old new : View) (count : ℕ) : Type 0 where
  pub spoken : List ℕ
  pub bytes : List ℕ
  pub is_ordered : IsOrdered old input order spoken
  pub plays : PlaysRange project range spoken bytes
  pub output_put : IsPut new output bytes
  pub counted : count ≡ length bytes
  pub others : KeepsOthers output old new

-- a fault that names the first one of a file names that of bytes that were read of it, with their channels in an order
abbrev pub NamesOrdered : View → List ℕ → (List ℕ → List ℕ) → calls.Fault → Type 0
NamesOrdered old input order fault = IfNamed fault (λ cause. (spoken : List ℕ) × IsOrdered old input order spoken × (opened_of spoken ≡ Err cause))

-- a fault ended it, and it is right: a file that can be played is refused only for memory, a device or the number of
-- reads; an old file is kept, or there was none and a prefix of what was due is there
pub record StopsSpeaking (project : List ℕ) (range : WaveRange) (order : List ℕ → List ℕ) (input output : List ℕ) (old new : View) (fault : calls.Fault) : Type 0 where
  pub ended : IsTrue old.is_known → (file : List ℕ) × OpensAs old input file × EndsPlaying project range (order file) output old new fault
  pub named : NamesOrdered old input order fault
  pub others : KeepsOthers output old new

-- how playing it to an empty file ends
abbrev pub SpokenComesTo : List ℕ → WaveRange → (List ℕ → List ℕ) → List ℕ → List ℕ → View → View → Result ℕ CommandFault → Type 0
SpokenComesTo project range order input output old new (Ok count) = SpeaksFile project range order input output old new count
SpokenComesTo project range order input output old new (Err (Call fault)) = StopsSpeaking project range order input output old new fault
SpokenComesTo project range order input output old new (Err WriteFailed) = KeepsOthers output old new × (new.file output ≡ old.file output)
SpokenComesTo project range order input output old new (Err ReadFailed) = ⊥

-- the same of a file that is played, whichever name it was opened under
abbrev pub SpeechComesTo : {R : Type 0} → (R → Option (List ℕ)) → Spoken R → List ℕ → View → View → Result ℕ CommandFault → Type 0
SpeechComesTo left spoken output old new came = (input : List ℕ) → IsGiven old input (left_spoken left spoken)
    → SpokenComesTo spoken.project.now spoken.range (with_order (reordering_order spoken.reordering) (reordering_size spoken.reordering) (reordering_groups spoken.reordering) (length spoken.before.items)) input output old new came

-- a file is to be played from the start of its sound on, by the loudspeakers of a recording and a project's filter
pub record IsToBeSpoken {R : Type 0} (project : List ℕ) (start stop : ℕ) (speakers : Speakers) (is_wide : Bool) (s : Sound) (spoken : Spoken R) : Type 0 where
  pub project_is : spoken.project.now ≡ project
  pub range_is : spoken.range ≡ part_range (head_of is_wide speakers.mask) start stop
  pub order_is : reordering_order spoken.reordering ≡ speakers.order.items
  pub size_is : reordering_size spoken.reordering ≡ part_size s.interleaving
  pub groups_are : reordering_groups spoken.reordering ≡ moved_groups speakers.order.items (s.size / (s.channels * part_size s.interleaving))
  pub start_is : length spoken.before.items ≡ s.start

-- why a file that was opened is not played with the loudspeakers that were reported of it: memory ran out, or it has
-- another number of channels
abbrev pub IsNotSpoken : Speakers → Sound → CommandFault → Type 0
IsNotSpoken speakers s (Call fault) = fault ≡ Memory
IsNotSpoken speakers s ReadFailed = length speakers.order.items ≢ s.channels
IsNotSpoken speakers s WriteFailed = ⊥

-- ---- the files
-- the output is now the WAVE file of the span's part of a recording, whose channels come in the order of the mask's
-- bits, with the mask of their loudspeakers; its size and the mask are what was returned; no other file changed
pub record SpeaksPart (is_wide : Bool) (project_name file_name output_name : List ℕ) (span : Span) (old new : View) (played : PlayedSpeakers) : Type 0 where
  pub project : List ℕ
  pub start : ℕ
  pub stop : ℕ
  pub speakers : Speakers
  pub sound : Sound
  pub project_read : IsReadOf old project_name project
  pub mask_is : played.mask ≡ speakers.mask
  pub are_speakers : AreSpeakersOf file_name old speakers
  pub has_span : FindsSpan project file_name old span start stop
  pub described : DescribesRead file_name old sound
  pub speaks : SpeaksFile project (part_range (head_of is_wide speakers.mask) start stop) (in_order speakers.order.items sound) file_name output_name old new played.size

-- the span's part and the loudspeakers of a recording were found, and a fault ended the playing of that; the fault is
-- right, an old output is kept, and no other file changed
pub record LeavesSpoken (is_wide : Bool) (project_name file_name output_name : List ℕ) (span : Span) (old new : View) (fault : calls.Fault) : Type 0 where
  pub project : List ℕ
  pub start : ℕ
  pub stop : ℕ
  pub speakers : Speakers
  pub sound : Sound
  pub project_read : IsReadOf old project_name project
  pub are_speakers : AreSpeakersOf file_name old speakers
  pub has_span : FindsSpan project file_name old span start stop
  pub described : DescribesRead file_name old sound
  pub stops : StopsSpeaking project (part_range (head_of is_wide speakers.mask) start stop) (in_order speakers.order.items sound) file_name output_name old new fault

-- the folder before and after the input was played to the output came to this: nothing changed where a file was not read
-- or the part not found, and an output that was not written is as it was
abbrev pub SpeakComesTo : Bool → List ℕ → List ℕ → List ℕ → Span → View → View → Result PlayedSpeakers PartFault → Type 0
SpeakComesTo is_wide project input output span old new (Ok played) = SpeaksPart is_wide project input output span old new played
SpeakComesTo is_wide project input output span old new (Err (Command (Call fault))) = ((new ≡ old) × (fault ≡ Memory)) ⊎ (IsPartRefused project input span old new (Command (Call fault)) ⊎ LeavesSpoken is_wide project input output span old new fault)
SpeakComesTo is_wide project input output span old new (Err (Command ReadFailed)) = new ≡ old
SpeakComesTo is_wide project input output span old new (Err (Command WriteFailed)) = IsPartUnwritten project input output span old new
SpeakComesTo is_wide project input output span old new (Err (Spans fault)) = IsPartRefused project input span old new (Spans fault)
