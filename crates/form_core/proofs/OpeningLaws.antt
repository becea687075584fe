-- A file is read as DSDIFF, and where it is no DSDIFF file at all, as DSF.
use Rattle.std.proofs.Common.{◌≡◌, ℕ, Bool, true, false, cond, ◌≤◌, List, length, Result, Ok, Err, IfOk, refl, arith}
use Rattle.std.proofs.lemmas.Bool.{le-ltb}
use Rattle.dsd_bits.specs.declared.blocks.BitOrder.{BitOrder}
use Rattle.dsd_bits.specs.declared.blocks.BitOrder.TheVariants.{LeastFirst, MostFirst}
use Rattle.dsd_bits.specs.declared.interleaving.Interleaving.TheVariants.{Blocks}
use Rattle.dsd_bits.specs.Contents.{Content}
use Rattle.dsdiff_core.specs.declared.fault.DsdiffFault.{DsdiffFault}
use Rattle.dsdiff_core.specs.declared.fault.DsdiffFault.TheVariants as dsdiffs
use Rattle.dsdiff_core.specs.Files.{IsDsdiff}
use Rattle.dsdiff_core.specs.Forms.{form_end_in, top_of}
use Rattle.dsdiff_core.specs.Reading as dsdiff
use Rattle.dsdiff_core.proofs.FileLaws.{is_dsdiff, parts_again, parts_from, parts_ok}
use Rattle.dsf_core.specs.declared.fault.DsfFault.{DsfFault}
use Rattle.dsf_core.specs.Files.{IsDsf}
use Rattle.dsf_core.specs.Reading as dsf
use Rattle.dsf_core.proofs.FileLaws.{dsf_is_read, is_dsf}
use Rattle.form_core.specs.declared.form.Form.{Form}
use Rattle.form_core.specs.declared.form.Form.TheVariants as forms
use Rattle.form_core.specs.declared.opening.Opened.{Opened}
use Rattle.form_core.specs.declared.fault.ReadFault.{ReadFault}
use Rattle.form_core.specs.Faults.{dsdiff_fault}
use Rattle.form_core.specs.Forms.{HoldsAs, form_in}
use Rattle.form_core.specs.Opening.{IsOpened, Opens, from_dsdiff, from_dsf, is_other, opened_of}

-- ---- a DSF file is no DSDIFF file
no_dsdiff : (file : List ℕ) (r : Content) (order : BitOrder) → IsDsf file r order → dsdiff.recording_of file ≡ Err dsdiffs.NotDsdiff
unfolding dsdiff.recording_of top_of form_end_in
no_dsdiff file r order h =
    let long : 16 ≤ length file = omega (arith, h.in_file) in
    rw (le-ltb (length file) 16 long, h.first) refl

-- ---- what a file holds is what reading comes to
pub holds_dsf : (file : List ℕ) (r : Content) (order : BitOrder) → IsDsf file r order → HoldsAs file (form_in (Blocks order)) r
holds_dsf file r LeastFirst h = h
holds_dsf file r MostFirst h = h

opened_dsf : (file : List ℕ) (r : Content) (order : BitOrder) → IsDsf file r order → opened_of file ≡ Ok (record { form = form_in (Blocks order); recording = r })
unfolding opened_of
opened_dsf file r order h = rw (no_dsdiff file r order h, dsf_is_read file r order h) refl

pub held_is_opened : (file : List ℕ) (form : Form) (r : Content) → HoldsAs file form r → opened_of file ≡ Ok (record { form = form; recording = r })
unfolding opened_of
held_is_opened file forms.Dsdiff r h = rw (parts_again file r (parts_from file r h)) refl
held_is_opened file forms.Dsf r h = opened_dsf file r LeastFirst h
held_is_opened file forms.Dsf8 r h = opened_dsf file r MostFirst h

pub opened_is_held : (file : List ℕ) (x : Opened) → opened_of file ≡ Ok x → IsOpened file x
unfolding opened_of
opened_is_held file x e = by_dsdiff (dsdiff.recording_of file) (λ r h. is_dsdiff file r (parts_ok file r h)) e
  where
    by_dsf : (reading : Result (Content × BitOrder) DsfFault) → ((y : Content × BitOrder) → reading ≡ Ok y → IsDsf file y.0 y.1) → from_dsf reading ≡ Ok x → IsOpened file x
    by_dsf (Ok y) is e = let same : record { form = form_in (Blocks y.1); recording = y.0 } ≡ x = cc in rw (← same) (holds_dsf file y.0 y.1 (is y refl))
    by_dsf (Err f) is e = absurd cc

    by_other : (other : Bool) (fault : ReadFault) → cond other (from_dsf (dsf.recording_of file)) (Err fault) ≡ Ok x → IsOpened file x
    by_other true fault e = by_dsf (dsf.recording_of file) (λ y h. is_dsf file y h) e
    by_other false fault e = absurd cc

    by_dsdiff : (reading : Result Content DsdiffFault) → ((r : Content) → reading ≡ Ok r → IsDsdiff file r) → from_dsdiff reading (from_dsf (dsf.recording_of file)) ≡ Ok x → IsOpened file x
    by_dsdiff (Ok r) is e = let same : record { form = forms.Dsdiff; recording = r } ≡ x = cc in rw (← same) (is r refl)
    by_dsdiff (Err f) is e = by_other (is_other f) (dsdiff_fault f) e

pub is_found : (file : List ℕ) (result : Result Opened ReadFault) → Opens result (opened_of file) → IfOk result (IsOpened file)
is_found file (Ok x) h = opened_is_held file x h
is_found file (Err e) h = tt
