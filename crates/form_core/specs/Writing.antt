-- A file that was written for a recording holds its sound again.
use Rattle.std.specs.Prelude.{◌≡◌, ℕ, List, None, ⊤}
use Rattle.dsd_bits.specs.Contents.{Content}
use Rattle.dsdiff_core.specs.declared.write_fault.WriteFault.{WriteFault}
use Rattle.dsdiff_core.specs.declared.write_fault.WriteFault.TheVariants.{NotWholeBytes, Memory}
use Rattle.form_core.specs.declared.form.Form.{Form}
use Rattle.form_core.specs.declared.form.Form.TheVariants.{Dsdiff}
use Rattle.form_core.specs.Forms.{HoldsAs, text_in}

-- the bytes are a file of the form with the rate and the channels of the recording, and with its marks if the form has
-- marks
pub record HoldsSound (form : Form) (recording : Content) (bytes : List ℕ) : Type 0 where
  pub again : Content
  pub holds : HoldsAs bytes form again
  pub same_rate : again.rate ≡ recording.rate
  pub same_channels : again.channels ≡ recording.channels
  pub same_marks : form ≡ Dsdiff → again.marks ≡ recording.marks

-- a refusal of writing: part of a byte if there is no such file, or memory ran out
abbrev pub IsWriteFault : Form → Content → WriteFault → Type 0
IsWriteFault form recording NotWholeBytes = text_in form recording ≡ None
IsWriteFault form recording Memory = ⊤
