-- The relations of the calls say what their readings in order come to.
use Rattle.std.proofs.Common.{◌≡◌, ℕ, ◌%◌, List, None, Some, IsErrOf, Ok, Err, inl, inr, Vec, Global, refl}
use Rattle.std.proofs.lemmas.Bool.{ne_eqb}
use Rattle.fir_core.specs.Decimator.{Decimator}
use Rattle.sound_core.specs.declared.fault.StreamFault.TheVariants.{RateNotDivided}
use Rattle.wave_core.specs.declared.fault.WaveFault.{WaveFault}
use Rattle.wave_core.specs.declared.fault.WaveFault.TheVariants as waves
use Rattle.wave_core.specs.Texts.{wave_text}
use Rattle.player_core.specs.Samples.{pcm}
use Rattle.dsdiff_core.specs.declared.write_fault.WriteFault.{WriteFault}
use Rattle.dsdiff_core.specs.declared.write_fault.WriteFault.TheVariants as writes
use Rattle.form_core.specs.declared.form.Form.{Form}
use Rattle.dsd_bits.specs.Contents.{described}
use Rattle.form_core.specs.Forms.{dropped_in, text_in}
use Rattle.form_core.specs.Writing.{IsWriteFault}
use Rattle.form_core.specs.declared.fault.ReadFault.{ReadFault}
use Rattle.form_core.specs.declared.fault.ReadFault.TheVariants as reads
use Rattle.form_core.specs.declared.opening.Opened.{Opened}
use Rattle.form_core.specs.Opening.{Opens, opened_of}
use Rattle.form_core.specs.Steps.{FailsUnless}
use Rattle.form_core.proofs.OpeningLaws.{held_is_opened}
use Rattle.request_core.specs.declared.fault.Fault.{Fault}
use Rattle.request_core.specs.declared.fault.Fault.TheVariants.{Memory, Stream}
use Rattle.transfer_core.specs.Converting.{converted_of}
use Rattle.request_core.specs.Faults.{fault_of_file, fault_of_wave, fault_of_writing}
use Rattle.transfer_core.specs.Laws.{ConvertsInOrder, PlaysInOrder}
use Rattle.transfer_core.specs.Playing.{played_of}
use Rattle.request_core.proofs.ProjectLaws.{says_decimator}
use Rattle.request_core.specs.Projects.{decimator_of_text}

pub converts : ConvertsInOrder
unfolding converted_of
converts = λ file form bytes dropped is. rw (held_is_opened file is.source is.recording is.file_holds, is.text, is.dropped_is) refl

pub plays : PlaysInOrder
unfolding played_of
plays = λ project file bytes is. rw (says_decimator project is.decimator is.project_says, held_is_opened file is.form is.recording is.file_holds, is.rate_divided, is.text) refl

-- ---- what is converted, or the first fault
module _ (file : List ℕ) (form : Form) where
  pub file_unread : (e : ReadFault) → Opens (Err e) (opened_of file) → FailsUnless Memory (fault_of_file e) (converted_of file form)
  unfolding converted_of
  file_unread reads.Memory is = inl refl
  file_unread reads.UnknownForm is = inr (rw is refl)
  file_unread (reads.Dsdiff e) is = inr (rw is refl)
  file_unread (reads.Dsf e) is = inr (rw is refl)

  module _ (o : Opened) (holds : opened_of file ≡ Ok o) where
    pub file_unwritten : (e : WriteFault) → IsWriteFault form o.recording e → FailsUnless Memory (fault_of_writing e) (converted_of file form)
    unfolding converted_of
    file_unwritten writes.NotWholeBytes is = inr (rw (holds, is) refl)
    file_unwritten writes.Memory is = inl refl

    pub text_converted : (bytes : List ℕ) (dropped : ℕ) → text_in form o.recording ≡ Some bytes → dropped ≡ dropped_in form (described o.recording) → converted_of file form ≡ Ok (bytes, dropped)
    unfolding converted_of
    text_converted bytes dropped is dropped_is = rw (holds, is, dropped_is) refl

-- ---- what is played, or the first fault
module _ (project file : List ℕ) where
  pub project_refused : (e : Fault) → FailsUnless Memory e (decimator_of_text project) → FailsUnless Memory e (played_of project file)
  unfolding played_of
  project_refused e (inl is) = inl is
  project_refused e (inr is) = inr (rw is refl)

  module _ (d : Decimator) (said : decimator_of_text project ≡ Ok d) where
    pub file_refused : (e : ReadFault) → Opens (Err e) (opened_of file) → FailsUnless Memory (fault_of_file e) (played_of project file)
    unfolding played_of
    file_refused reads.Memory is = inl refl
    file_refused reads.UnknownForm is = inr (rw (said, is) refl)
    file_refused (reads.Dsdiff e) is = inr (rw (said, is) refl)
    file_refused (reads.Dsf e) is = inr (rw (said, is) refl)

    module _ (o : Opened) (holds : opened_of file ≡ Ok o) where
      pub rate_not_divided : (o.recording.rate % d.factor ≡ 0 → ⊥) → played_of project file ≡ Err (Stream RateNotDivided)
      unfolding played_of
      rate_not_divided h = rw (said, holds, ne_eqb (o.recording.rate % d.factor) 0 h) refl

      module _ (divided : o.recording.rate % d.factor ≡ 0) where
        pub samples_refused : (e : WaveFault) → (IsErrOf {T = Vec ℕ Global} (Err e) waves.TooLarge → wave_text (pcm o.recording d) ≡ None) → FailsUnless Memory (fault_of_wave e) (played_of project file)
        unfolding played_of
        samples_refused waves.TooLarge h = inr (rw (said, holds, divided, h refl) refl)
        samples_refused waves.Memory h = inl refl

        pub text_played : (bytes : List ℕ) → wave_text (pcm o.recording d) ≡ Some bytes → played_of project file ≡ Ok bytes
        unfolding played_of
        text_played bytes is = rw (said, holds, divided, is) refl
