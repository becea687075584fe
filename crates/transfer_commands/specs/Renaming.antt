-- What is written of a file whose loudspeakers are named as another form names them.
use Rattle.std.specs.Prelude.{◌≡◌, ◌⊎◌, ◌/◌, ℕ, List, [], ◌++◌, length, map, replicate, Option, None, Some, IfSome, Result, Ok, Err, ⊤}
use Rattle.std.specs.Io.KnownBytes.{Appends, prepend_known}
use Rattle.chunk_core.specs.Outlets.{AppendsPrefix}
use Rattle.form_core.specs.Forms.{form_in}
use Rattle.form_core.specs.Parts.{FitsIn, head_in, interleaving_in, tail_in}
use Rattle.form_core.specs.declared.form.Form.{Form}
use Rattle.form_core.specs.declared.form.Form.TheVariants as forms
use Rattle.dsd_bits.specs.Contents.{Content}
use Rattle.request_core.specs.declared.fault.Fault.{Fault}
use Rattle.request_core.specs.declared.fault.Fault.TheVariants.{Memory, NotWholeBytes}
use Rattle.sound_core.specs.Outlines.{IsPlacedIn, Surroundings}
use Rattle.sound_core.specs.Relays.{reinterleaved_sound}
use Rattle.sound_core.specs.declared.fault.StreamFault.{StreamFault}
use Rattle.speaker_core.specs.Reordered.{reordering_groups, reordering_order, reordering_size}
use Rattle.speaker_core.specs.Reordering.{NamesChannels, groups_in}
use Rattle.speaker_core.specs.Speakers.{moved_groups, speaker_of, speaker_order}
use Rattle.transfer_commands.specs.SpeakersConverting.{spoken_in}
use Rattle.transfer_commands.specs.declared.renaming.Parts.{Parts}
use Rattle.transfer_commands.specs.declared.renaming.Renaming.{Renaming}

-- the recording without its sound and all that is kept of it, with these IDs and this layout
abbrev pub plain_of : Content → List (List ℕ) → ℕ → Content
plain_of r ids layout = record { rate = r.rate; channels = replicate (length ids) []; ids = ids; layout = layout; marks = []; others = []; tag = [] }

-- the channels come in this order, which names each of them
pub record MovesBy (order : List ℕ) (channels n : ℕ) (w : Renaming) : Type 0 where
  pub order_is : reordering_order w.reordering ≡ order
  pub groups_are : reordering_groups w.reordering ≡ moved_groups order n
  pub names : NamesChannels order
  pub number : length order ≡ channels

-- which channels of a recording with n bytes in each channel come in another order: those of a DSDIFF file, by the
-- loudspeakers that their IDs name, in a DSF file; otherwise none
abbrev pub AreMoved : Form → Form → Content → ℕ → Renaming → Type 0
AreMoved forms.Dsdiff forms.Dsdiff r n w = reordering_groups w.reordering ≡ 0
AreMoved forms.Dsdiff _ r n w = MovesBy (speaker_order (map speaker_of r.ids)) (length r.ids) n w
AreMoved _ _ r n w = reordering_groups w.reordering ≡ 0

-- what is written of a file with these surroundings is the file of the form for its recording with its loudspeakers
-- named
pub record IsRenaming (form : Form) (o : Surroundings) (w : Renaming) : Type 0 where
  pub spoken : Content
  pub named : spoken_in (form_in o.sound.interleaving) form o.recording ≡ Some spoken
  pub head : w.ends.head.items ≡ head_in form spoken o.sound.count
  pub tail : w.ends.tail.items ≡ tail_in form spoken o.sound.count
  pub form_is : w.form ≡ form
  pub fits : FitsIn form o.sound.count
  pub size : reordering_size w.reordering ≡ 1
  pub moved : AreMoved (form_in o.sound.interleaving) form o.recording (o.sound.count / 8) w
  pub ids : length o.recording.ids ≡ o.sound.channels

-- nothing is written of a file only if no channel type has the loudspeakers that its IDs name
abbrev pub HasNoLayout : Form → Surroundings → Option Renaming → Type 0
HasNoLayout form o (Some w) = ⊤
HasNoLayout form o None = spoken_in (form_in o.sound.interleaving) form o.recording ≡ None

-- why there is nothing to write: memory, or the form has no place for the channels
abbrev pub IsRenamingFault : Form → Surroundings → Fault → Type 0
IsRenamingFault form o fault = (fault ≡ Memory) ⊎ ((fault ≡ NotWholeBytes) × (FitsIn form o.sound.count → ⊥))

-- the bytes that are written of a file with this sound
abbrev pub renamed_bytes : Renaming → Surroundings → List ℕ → List ℕ
renamed_bytes w o sound = w.ends.head.items ++ (reinterleaved_sound o.sound (interleaving_in w.form) (groups_in (reordering_order w.reordering) (reordering_size w.reordering) (reordering_groups w.reordering) sound) ++ w.ends.tail.items)

-- the bytes of a file from its start, where those that it has left are known
abbrev pub left_parts : {R : Type 0} → (R → Option (List ℕ)) → Parts R → Option (List ℕ)
left_parts left parts = prepend_known parts.head.items (prepend_known parts.tail.items (left parts.file))

-- how writing what is made of a file ends: all of it was written, or a prefix
abbrev pub RelaysRenamed : Option (List ℕ) → Surroundings → Renaming → Option (List ℕ) → Option (List ℕ) → Result (Unit {0}) StreamFault → Type 0
RelaysRenamed left o w held written (Ok u) = IfSome left (λ file. (sound : List ℕ) × IsPlacedIn o file sound × Appends held written (renamed_bytes w o sound))
RelaysRenamed left o w held written (Err fault) = IfSome left (λ file. (sound : List ℕ) → IsPlacedIn o file sound → AppendsPrefix held written (renamed_bytes w o sound))
