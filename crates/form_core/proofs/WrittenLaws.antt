-- What is written is read again, in every form.
use Rattle.std.proofs.Common.{◌≡◌, ℕ, ◌<◌, ◌^◌, List, length, Some, refl, ap, subst, arith}
use Rattle.dsd_bits.specs.declared.blocks.BitOrder.{BitOrder}
use Rattle.dsd_bits.specs.declared.blocks.BitOrder.TheVariants.{LeastFirst, MostFirst}
use Rattle.dsd_bits.specs.Contents.{Content}
use Rattle.dsd_bits.specs.Shape.{HasShape}
use Rattle.dsdiff_core.specs.ReadAgain as dsdiff
use Rattle.dsf_core.specs.Files.{IsDsf}
use Rattle.dsf_core.specs.ReadAgain as dsf
use Rattle.dsf_core.specs.Writing.{dsf_text}
use Rattle.form_core.specs.declared.form.Form.TheVariants as forms
use Rattle.form_core.specs.Laws.{WrittenIsRead}

-- a file of blocks
blocks : dsf.WrittenReadAgain → (r : Content) (order : BitOrder) (file : List ℕ) → HasShape r → Some (dsf_text r order) ≡ Some file → length file < 2 ^ 63 → IsDsf file (dsf.as_stored r) order
blocks law r order file shape text short =
    let is : dsf_text r order ≡ file = cc in
    subst (λ (f : List ℕ). IsDsf f (dsf.as_stored r) order) is (law r order shape (omega (arith, ap length is, short)))

pub written_is_read : dsdiff.WrittenReadAgain → dsf.WrittenReadAgain → WrittenIsRead
written_is_read frames law forms.Dsdiff r file shape fits text short = record { again = dsdiff.as_stored r; holds = frames r file shape fits text short; same_rate = refl; same_channels = refl; same_marks = λ e. refl }
written_is_read frames law forms.Dsf r file shape fits text short = record { again = dsf.as_stored r; holds = blocks law r LeastFirst file shape text short; same_rate = refl; same_channels = refl; same_marks = λ e. absurd cc }
written_is_read frames law forms.Dsf8 r file shape fits text short = record { again = dsf.as_stored r; holds = blocks law r MostFirst file shape text short; same_rate = refl; same_channels = refl; same_marks = λ e. absurd cc }
