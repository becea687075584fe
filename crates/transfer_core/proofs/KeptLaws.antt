-- What a file is converted to keeps its sound, and all of its recording if no part was dropped.
use Rattle.std.proofs.Common.{◌≡◌, ℕ, ◌+◌, ◌<◌, ◌^◌, List, [], ◌∷◌, length, Some, refl, sym, ap, subst, ◌∙◌, arith, Bool, nat_eq, if◌then◌else◌}
use lib.Dec.{eqb-suc-zero}
use Rattle.std.proofs.lemmas.List.{nil_from_length}
use Rattle.dsd_bits.specs.declared.blocks.BitOrder.{BitOrder}
use Rattle.dsd_bits.specs.declared.blocks.BitOrder.TheVariants.{LeastFirst, MostFirst}
use Rattle.dsd_bits.specs.Contents.{Content}
use Rattle.dsd_bits.specs.Shape.{HasShape}
use Rattle.dsdiff_core.specs.ReadAgain as dsdiff
use Rattle.dsf_core.specs.Files.{IsDsf}
use Rattle.dsf_core.specs.ReadAgain as dsf
use Rattle.dsf_core.specs.Writing.{dsf_text}
use Rattle.form_core.specs.declared.form.Form.{Form}
use Rattle.form_core.specs.declared.form.Form.TheVariants as forms
use Rattle.form_core.specs.Forms.{HoldsAs}
use Rattle.transfer_core.specs.Converting.{AreSameIn, KeepsAll, KeepsSound}
use Rattle.transfer_core.specs.Laws.{ConvertedIsKept}

-- no tag was dropped
no_tag : (tag : List ℕ) (dropped : ℕ) → dropped ≡ 0 → dropped ≡ (if nat_eq (length tag) 0 then 0 else 1) → tag ≡ []
no_tag [] dropped none is = refl
no_tag (byte ∷ tag) dropped none is =
    let one : dropped ≡ 1 = is ∙ ap (λ (b : Bool). if b then 0 else 1) (eqb-suc-zero (length tag)) in
    absurd (omega (arith, one, none))

-- a file of frames
same_frames : (r : Content) → r.tag ≡ [] → AreSameIn forms.Dsdiff r (dsdiff.as_stored r)
same_frames r none = ap (λ (tag : List ℕ). record (dsdiff.as_stored r) { tag = tag }) (sym none)

-- a file of blocks
module _ (r : Content) (none : 0 ≡ length r.marks + length r.others) where
  no_marks : r.marks ≡ []
  no_marks = nil_from_length r.marks (omega (arith, none))

  no_others : r.others ≡ []
  no_others = nil_from_length r.others (omega (arith, none))

  same_blocks : AreSameIn forms.Dsf r (dsf.as_stored r)
  same_blocks = rw (no_marks, no_others) refl

blocks : dsf.WrittenReadAgain → (r : Content) (order : BitOrder) (file : List ℕ) → HasShape r → Some (dsf_text r order) ≡ Some file → length file < 2 ^ 63 → IsDsf file (dsf.as_stored r) order
blocks law r order file shape text short =
    let is : dsf_text r order ≡ file = cc in
    subst (λ (f : List ℕ). IsDsf f (dsf.as_stored r) order) is (law r order shape (omega (arith, ap length is, short)))

-- the sound of a file in bytes that hold a recording of it
module _ (file : List ℕ) (source form : Form) (before after : Content) (bytes : List ℕ) (file_holds : HoldsAs file source before) (bytes_hold : HoldsAs bytes form after) where
  sound : after.rate ≡ before.rate → after.channels ≡ before.channels → KeepsSound file form bytes
  sound rate channels = record { source = source; before = before; after = after; file_holds = file_holds; bytes_hold = bytes_hold; same_rate = rate; same_channels = channels }

  all : AreSameIn form before after → KeepsAll file form bytes
  all same = record { source = source; before = before; after = after; file_holds = file_holds; bytes_hold = bytes_hold; same = same }

pub converted_is_kept : dsdiff.WrittenReadAgain → dsf.WrittenReadAgain → ConvertedIsKept
converted_is_kept frames law file forms.Dsdiff bytes dropped is shape fits short =
    let r = is.recording in
    let again = frames r bytes shape fits is.text short in
    record {
      sound = sound file is.source forms.Dsdiff r (dsdiff.as_stored r) bytes is.file_holds again refl refl;
      whole = λ none. all file is.source forms.Dsdiff r (dsdiff.as_stored r) bytes is.file_holds again (same_frames r (no_tag r.tag dropped none is.dropped_is));
    }
converted_is_kept frames law file forms.Dsf bytes dropped is shape fits short =
    let r = is.recording in
    let again = blocks law r LeastFirst bytes shape is.text short in
    record {
      sound = sound file is.source forms.Dsf r (dsf.as_stored r) bytes is.file_holds again refl refl;
      whole = λ none. all file is.source forms.Dsf r (dsf.as_stored r) bytes is.file_holds again (same_blocks r (sym none ∙ is.dropped_is));
    }
converted_is_kept frames law file forms.Dsf8 bytes dropped is shape fits short =
    let r = is.recording in
    let again = blocks law r MostFirst bytes shape is.text short in
    record {
      sound = sound file is.source forms.Dsf8 r (dsf.as_stored r) bytes is.file_holds again refl refl;
      whole = λ none. all file is.source forms.Dsf8 r (dsf.as_stored r) bytes is.file_holds again (same_blocks r (sym none ∙ is.dropped_is));
    }
