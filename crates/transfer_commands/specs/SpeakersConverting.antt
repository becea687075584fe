-- How a folder changes if one of its files is converted to another that names the loudspeakers of its channels.
use Rattle.std.specs.Prelude.{◌≡◌, ◌⊎◌, ℕ, List, map, Option, None, Some, Result, Ok, Err}
use Rattle.dsd_bits.specs.Contents.{Content, described}
use Rattle.folder_core.specs.Files.{IsPut, IsPutInPart, IsReadOf, KeepsOthers, View}
use Rattle.form_core.specs.Forms.{HoldsAs, dropped_in, text_in}
use Rattle.form_core.specs.Opening.{opened_of}
use Rattle.form_core.specs.declared.fault.ReadFault.{ReadFault}
use Rattle.form_core.specs.declared.form.Form.{Form}
use Rattle.form_core.specs.declared.form.Form.TheVariants as forms
use Rattle.request_core.specs.Faults.{fault_of_file}
use Rattle.request_core.specs.declared.fault.Fault as calls
use Rattle.request_core.specs.declared.fault.Fault.TheVariants.{Memory, NotWholeBytes}
use Rattle.speaker_core.specs.Reordering.{channels_in}
use Rattle.speaker_core.specs.Speakers.{layout_ids, layout_with, speaker_mask, speaker_of, speaker_order}
use Rattle.transfer_commands.specs.Converting.{KeepsOld}
use Rattle.transfer_commands.specs.declared.convert_speakers.SpeakersFault.{SpeakersFault}
use Rattle.transfer_commands.specs.declared.convert_speakers.SpeakersFault.TheVariants as faults
use Rattle.transfer_commands.specs.declared.fault.CommandFault.TheVariants.{Call, ReadFailed, WriteFailed}

-- ---- the recording that is written

-- a recording with the IDs that name the loudspeakers of its layout
abbrev pub with_ids : Content → Content
with_ids r = record r { ids = layout_ids r.layout }

-- a recording of this layout, with its channels in the order of the loudspeakers that their IDs name; a file that has
-- layouts doesn't store IDs
abbrev pub with_layout : Content → ℕ → Content
with_layout r layout = record r { channels = channels_in (speaker_order (map speaker_of r.ids)) r.channels; layout = layout }

-- the same with the layout that has the loudspeakers of the IDs, if there is one
abbrev pub with_own_layout : Content → Option ℕ → Option Content
with_own_layout r None = None
with_own_layout r (Some layout) = Some (with_layout r layout)

-- the recording of a file of the first form, with its loudspeakers named as a file of the second form names them; there
-- is none if no channel type has the loudspeakers that the IDs name
abbrev pub spoken_in : Form → Form → Content → Option Content
spoken_in forms.Dsdiff forms.Dsdiff r = Some r
spoken_in forms.Dsdiff _ r = with_own_layout r (layout_with (speaker_mask (map speaker_of r.ids)))
spoken_in _ forms.Dsdiff r = Some (with_ids r)
spoken_in _ _ r = Some r

-- the bytes are the file of the form that is written for the recording in a file, with its loudspeakers named, and
-- `dropped` parts of the recording are not in it
pub record ConvertsSpoken (file : List ℕ) (form : Form) (bytes : List ℕ) (dropped : ℕ) : Type 0 where
  pub source : Form
  pub recording : Content
  pub spoken : Content
  pub file_holds : HoldsAs file source recording
  pub named : spoken_in source form recording ≡ Some spoken
  pub text : text_in form spoken ≡ Some bytes
  pub dropped_is : dropped ≡ dropped_in form (described recording)

-- ---- the files

-- the output now holds what bytes that were read of a recording's file are converted to; no other file changed
pub record ConvertsSpeakers (form : Form) (file_name output_name : List ℕ) (old new : View) (dropped : ℕ) : Type 0 where
  pub file : List ℕ
  pub bytes : List ℕ
  pub file_read : IsReadOf old file_name file
  pub output_put : IsPut new output_name bytes
  pub others : KeepsOthers output_name old new
  pub converts : ConvertsSpoken file form bytes dropped

-- the output is unchanged, or holds a prefix of what bytes that were read of a recording's file are converted to, if
-- the bytes of the last reading are the same; an old output is kept, and no other file changed
pub record LeavesSpokenPrefix (form : Form) (file_name output_name : List ℕ) (old new : View) : Type 0 where
  pub file : List ℕ
  pub last : List ℕ
  pub bytes : List ℕ
  pub dropped : ℕ
  pub file_read : IsReadOf old file_name file
  pub last_read : IsReadOf old file_name last
  pub converts : ConvertsSpoken file form bytes dropped
  pub prefix : last ≡ file → IsPutInPart output_name old new bytes
  pub kept : KeepsOld output_name old new
  pub others : KeepsOthers output_name old new

-- nothing changed, or the output holds at most a prefix
abbrev pub SpeaksInPart : Form → List ℕ → List ℕ → View → View → Type 0
SpeaksInPart form input output old new = (new ≡ old) ⊎ LeavesSpokenPrefix form input output old new

-- a file holds no recording for this fault
abbrev pub IsUnheld : List ℕ → calls.Fault → Type 0
IsUnheld file fault = (cause : ReadFault) × (opened_of file ≡ Err cause) × (fault ≡ fault_of_file cause)

-- a file holds a recording that a form has no place for, and this is the fault of that
abbrev pub IsNoPlace : List ℕ → Form → calls.Fault → Type 0
IsNoPlace file form fault = (source : Form) × (r : Content) × HoldsAs file source r × (text_in form r ≡ None) × (fault ≡ NotWholeBytes)

-- bytes that were read of a name hold no recording for this fault, or one that the form has no place for
pub record IsUnspoken (form : Form) (file_name : List ℕ) (old : View) (fault : calls.Fault) : Type 0 where
  pub file : List ℕ
  pub file_read : IsReadOf old file_name file
  pub why : IsUnheld file fault ⊎ IsNoPlace file form fault

-- bytes that were read of a name have IDs whose loudspeakers no channel type has
pub record HasNoType (form : Form) (file_name : List ℕ) (old : View) : Type 0 where
  pub file : List ℕ
  pub file_read : IsReadOf old file_name file
  pub source : Form
  pub recording : Content
  pub file_holds : HoldsAs file source recording
  pub unnamed : spoken_in source form recording ≡ None

-- how converting the input to the output, with its loudspeakers named, changes the folder
abbrev pub ConvertSpeakersComesTo : Form → List ℕ → List ℕ → View → View → Result ℕ SpeakersFault → Type 0
ConvertSpeakersComesTo form input output old new (Ok dropped) = ConvertsSpeakers form input output old new dropped
ConvertSpeakersComesTo form input output old new (Err faults.NoChannelType) = (new ≡ old) × HasNoType form input old
ConvertSpeakersComesTo form input output old new (Err (faults.Command (Call Memory))) = SpeaksInPart form input output old new
ConvertSpeakersComesTo form input output old new (Err (faults.Command (Call fault))) = (new ≡ old) × IsUnspoken form input old fault
ConvertSpeakersComesTo form input output old new (Err (faults.Command ReadFailed)) = SpeaksInPart form input output old new
ConvertSpeakersComesTo form input output old new (Err (faults.Command WriteFailed)) = LeavesSpokenPrefix form input output old new
