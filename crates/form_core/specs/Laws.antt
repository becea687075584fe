-- Laws: a file holds what reading it in order returns, and what was written.
use Rattle.std.specs.Prelude.{◌≡◌, ◌↔◌, ◌<◌, ◌^◌, ℕ, List, length, Ok, Some}
use Rattle.dsd_bits.specs.Contents.{Content}
use Rattle.dsd_bits.specs.Shape.{HasShape}
use Rattle.dsdiff_core.specs.ReadAgain.{FitsFields}
use Rattle.form_core.specs.declared.form.Form.{Form}
use Rattle.form_core.specs.Forms.{HoldsAs, text_in}
use Rattle.form_core.specs.Opening.{opened_of}
use Rattle.form_core.specs.Writing.{HoldsSound}

-- a file holds a recording in a form exactly if reading returns both
abbrev pub HeldIsOpened : Type 0
HeldIsOpened = (file : List ℕ) (form : Form) (r : Content) → HoldsAs file form r ↔ (opened_of file ≡ Ok (record { form = form; recording = r }))

-- a file that was written for a recording, of fewer than 2^63 bytes, holds its sound
abbrev pub WrittenIsRead : Type 0
WrittenIsRead = (form : Form) (r : Content) (file : List ℕ) → HasShape r → FitsFields r → text_in form r ≡ Some file → length file < 2 ^ 63 → HoldsSound form r file
