-- The file forms of a recording.
use Rattle.std.specs.Prelude.{ℕ, List, Option, Some, ◌+◌, length, nat_eq, if◌then◌else◌}
use Rattle.dsd_bits.specs.declared.blocks.BitOrder.TheVariants.{LeastFirst, MostFirst}
use Rattle.dsd_bits.specs.declared.interleaving.Interleaving.{Interleaving}
use Rattle.dsd_bits.specs.declared.interleaving.Interleaving.TheVariants.{Bytes, Blocks}
use Rattle.dsd_bits.specs.Contents.{Content, Described}
use Rattle.dsdiff_core.specs.Files.{IsDsdiff}
use Rattle.dsdiff_core.specs.Writing.{dsdiff_text}
use Rattle.dsf_core.specs.Files.{IsDsf}
use Rattle.dsf_core.specs.Writing.{dsf_text}
use Rattle.form_core.specs.declared.form.Form.{Form}
use Rattle.form_core.specs.declared.form.Form.TheVariants.{Dsdiff, Dsf, Dsf8}

-- the file has this form and holds this recording
abbrev pub HoldsAs : List ℕ → Form → Content → Type 0
HoldsAs file Dsdiff r = IsDsdiff file r
HoldsAs file Dsf r = IsDsf file r LeastFirst
HoldsAs file Dsf8 r = IsDsf file r MostFirst

-- the file holds this recording in some form
pub record HoldsSome (file : List ℕ) (recording : Content) : Type 0 where
  pub form : Form
  pub holds : HoldsAs file form recording

-- the form of a file whose sound is interleaved like this
abbrev pub form_in : Interleaving → Form
form_in Bytes = Dsdiff
form_in (Blocks LeastFirst) = Dsf
form_in (Blocks MostFirst) = Dsf8

-- the file of this form that is written for a recording; DSDIFF has none for part of a byte
abbrev pub text_in : Form → Content → Option (List ℕ)
text_in Dsdiff r = dsdiff_text r
text_in Dsf r = Some (dsf_text r LeastFirst)
text_in Dsf8 r = Some (dsf_text r MostFirst)

-- the number of parts besides the sound that a file of this form can't hold: a tag, or each mark and each kept chunk
abbrev pub dropped_in : Form → Described → ℕ
dropped_in Dsdiff d = if nat_eq (length d.tag) 0 then 0 else 1
dropped_in Dsf d = length d.marks + length d.others
dropped_in Dsf8 d = length d.marks + length d.others
