-- The file of a form in three parts: the bytes before the sound, the sound, and the bytes after it.
use Rattle.std.specs.Prelude.{◌≡◌, ℕ, ◌*◌, ◌/◌, ◌%◌, Bool, List, ◌++◌, length, Some}
use Rattle.dsd_bits.specs.declared.blocks.BitOrder.TheVariants.{LeastFirst, MostFirst}
use Rattle.dsd_bits.specs.declared.interleaving.Interleaving.{Interleaving}
use Rattle.dsd_bits.specs.declared.interleaving.Interleaving.TheVariants.{Bytes, Blocks}
use Rattle.dsd_bits.specs.Channels.{count_of}
use Rattle.dsd_bits.specs.Contents.{Content, described}
use Rattle.dsdiff_core.specs.Writing as dsdiff
use Rattle.dsf_core.specs.Writing as dsf
use Rattle.interleave_core.specs.Reinterleaving.{laced_in}
use Rattle.form_core.specs.declared.form.Form.{Form}
use Rattle.form_core.specs.declared.form.Form.TheVariants.{Dsdiff, Dsf, Dsf8}
use Rattle.form_core.specs.Forms.{text_in}

-- how the sound of a file of a form is interleaved
abbrev pub interleaving_in : Form → Interleaving
interleaving_in Dsdiff = Bytes
interleaving_in Dsf = Blocks LeastFirst
interleaving_in Dsf8 = Blocks MostFirst

-- a file of the form can hold channels of n bits: DSDIFF's frames hold whole bytes
abbrev pub FitsIn : Form → ℕ → Type 0
FitsIn form count = interleaving_in form ≡ Bytes → count % 8 ≡ 0

-- the bytes before the sound of a file that is written for a recording with n bits in each channel
abbrev pub head_in : Form → Content → ℕ → List ℕ
head_in Dsdiff r count = dsdiff.head_text r (count / 8 * length r.channels)
head_in Dsf r count = dsf.head_text (record (described r) { count = count }) LeastFirst
head_in Dsf8 r count = dsf.head_text (record (described r) { count = count }) MostFirst

-- the bytes after it
abbrev pub tail_in : Form → Content → ℕ → List ℕ
tail_in Dsdiff r count = dsdiff.tail_text r (count / 8 * length r.channels)
tail_in Dsf r count = r.tag
tail_in Dsf8 r count = r.tag

-- law: the file of channels is a head, their bytes and a tail; head and tail are the same for any recording with as
-- many channels and the same other parts
abbrev pub FormsWrittenInParts : Type 0
FormsWrittenInParts = (form : Form) (r : Content) (channels : List (List Bool)) → length r.channels ≡ length channels → FitsIn form (count_of channels)
    → text_in form (record r { channels = channels }) ≡ Some (head_in form r (count_of channels) ++ (laced_in (interleaving_in form) channels ++ tail_in form r (count_of channels)))
