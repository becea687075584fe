-- The recording that a file holds, whatever its form.
use Rattle.std.specs.Prelude.{◌≡◌, ℕ, Bool, true, false, List, Result, Ok, Err, if◌then◌else◌, ⊤}
use Rattle.dsd_bits.specs.declared.blocks.BitOrder.{BitOrder}
use Rattle.dsd_bits.specs.declared.interleaving.Interleaving.TheVariants.{Blocks}
use Rattle.dsd_bits.specs.Contents.{Content}
use Rattle.dsdiff_core.specs.declared.fault.DsdiffFault.{DsdiffFault}
use Rattle.dsdiff_core.specs.declared.fault.DsdiffFault.TheVariants.{NotDsdiff}
use Rattle.dsdiff_core.specs.Reading as dsdiff
use Rattle.dsf_core.specs.declared.fault.DsfFault.{DsfFault}
use Rattle.dsf_core.specs.Reading as dsf
use Rattle.form_core.specs.declared.fault.ReadFault.{ReadFault}
use Rattle.form_core.specs.declared.fault.ReadFault.TheVariants.{UnknownForm, Dsdiff, Dsf, Memory}
use Rattle.form_core.specs.declared.form.Form.TheVariants as forms
use Rattle.form_core.specs.declared.opening.Opened.{Opened}
use Rattle.form_core.specs.Faults.{dsdiff_fault, dsf_fault}
use Rattle.form_core.specs.Forms.{HoldsAs, form_in}

-- a reading of DSF as a reading of any form
abbrev pub from_dsf : Result (Content × BitOrder) DsfFault → Result Opened ReadFault
from_dsf (Ok x) = Ok (record { form = form_in (Blocks x.1); recording = x.0 })
from_dsf (Err fault) = Err (dsf_fault fault)

-- a refusal says that the file is not a DSDIFF file at all
abbrev pub is_other : DsdiffFault → Bool
is_other NotDsdiff = true
is_other _ = false

-- a reading of DSDIFF as a reading of any form: a file that is not a DSDIFF file at all is read in the other way
abbrev pub from_dsdiff : Result Content DsdiffFault → Result Opened ReadFault → Result Opened ReadFault
from_dsdiff (Ok r) otherwise = Ok (record { form = forms.Dsdiff; recording = r })
from_dsdiff (Err fault) otherwise = if is_other fault then otherwise else Err (dsdiff_fault fault)

-- the form and the recording of a file, or why there is none
unfoldable pub opened_of : List ℕ → Result Opened ReadFault
opened_of file = from_dsdiff (dsdiff.recording_of file) (from_dsf (dsf.recording_of file))

-- a call returned what reading gives, unless memory ran out
abbrev pub Opens : Result Opened ReadFault → Result Opened ReadFault → Type 0
Opens (Ok x) reading = reading ≡ Ok x
Opens (Err Memory) reading = ⊤
Opens (Err UnknownForm) reading = reading ≡ Err UnknownForm
Opens (Err (Dsdiff fault)) reading = reading ≡ Err (Dsdiff fault)
Opens (Err (Dsf fault)) reading = reading ≡ Err (Dsf fault)

-- what was returned is what the file holds
abbrev pub IsOpened : List ℕ → Opened → Type 0
IsOpened file x = HoldsAs file x.form x.recording
