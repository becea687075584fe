-- What a file is converted to.
use Rattle.std.specs.Prelude.{◌≡◌, ℕ, List, Some, Result, Ok}
use Rattle.std.specs.Option.{ok_or}
use Rattle.chunk_core.specs.Steps.{◌>>=◌}
use Rattle.dsd_bits.specs.Contents.{Content, described}
use Rattle.form_core.specs.declared.form.Form.{Form}
use Rattle.form_core.specs.declared.form.Form.TheVariants.{Dsdiff, Dsf, Dsf8}
use Rattle.form_core.specs.Forms.{HoldsAs, dropped_in, text_in}
use Rattle.form_core.specs.Opening.{opened_of}
use Rattle.transfer_core.specs.declared.converting.Converted.{Converted}
use Rattle.request_core.specs.declared.fault.Fault.{Fault}
use Rattle.request_core.specs.declared.fault.Fault.TheVariants.{NotWholeBytes}
use Rattle.request_core.specs.Faults.{fault_of_file}
use Rattle.form_core.specs.Steps.{map_err}

-- the bytes are the file of the form that is written for the recording in a file, and `dropped` parts of it are not in
-- them
pub record Converts (file : List ℕ) (form : Form) (bytes : List ℕ) (dropped : ℕ) : Type 0 where
  pub source : Form
  pub recording : Content
  pub file_holds : HoldsAs file source recording
  pub text : text_in form recording ≡ Some bytes
  pub dropped_is : dropped ≡ dropped_in form (described recording)

-- the same for what was returned
abbrev pub IsConverted : List ℕ → Form → Converted → Type 0
IsConverted file form made = Converts file form made.bytes.items made.dropped

-- the bytes are a file of the form with the sound of a file: every bit of every channel, at the same rate
pub record KeepsSound (file : List ℕ) (form : Form) (bytes : List ℕ) : Type 0 where
  pub source : Form
  pub before : Content
  pub after : Content
  pub file_holds : HoldsAs file source before
  pub bytes_hold : HoldsAs bytes form after
  pub same_rate : after.rate ≡ before.rate
  pub same_channels : after.channels ≡ before.channels

-- the same for what was returned
abbrev pub IsKept : List ℕ → Form → Converted → Type 0
IsKept file form made = KeepsSound file form made.bytes.items

-- the second recording is the first but for what a file of the form doesn't store: the layout in a DSDIFF file, the
-- channels' IDs in a DSF file
abbrev pub AreSameIn : Form → Content → Content → Type 0
AreSameIn Dsdiff before after = after ≡ record before { layout = after.layout }
AreSameIn Dsf before after = after ≡ record before { ids = after.ids }
AreSameIn Dsf8 before after = after ≡ record before { ids = after.ids }

-- the bytes are a file of the form with the recording of a file, but for what the form doesn't store
pub record KeepsAll (file : List ℕ) (form : Form) (bytes : List ℕ) : Type 0 where
  pub source : Form
  pub before : Content
  pub after : Content
  pub file_holds : HoldsAs file source before
  pub bytes_hold : HoldsAs bytes form after
  pub same : AreSameIn form before after

-- the same for what was returned, if it says that no part was dropped
abbrev pub IsWhole : List ℕ → Form → Converted → Type 0
IsWhole file form made = made.dropped ≡ 0 → KeepsAll file form made.bytes.items

-- the bytes keep the sound of a file, and all of its recording if no part was dropped
pub record Keeps (file : List ℕ) (form : Form) (bytes : List ℕ) (dropped : ℕ) : Type 0 where
  pub sound : KeepsSound file form bytes
  pub whole : dropped ≡ 0 → KeepsAll file form bytes

-- the returned bytes, and the number of parts of the recording that are not in them
abbrev pub contents : Converted → List ℕ × ℕ
contents made = (made.bytes.items, made.dropped)

-- what a file is converted to, or the first fault: file, whole bytes
unfoldable pub converted_of : List ℕ → Form → Result (List ℕ × ℕ) Fault
converted_of file form = do
  opened ← map_err fault_of_file (opened_of file)
  bytes ← ok_or (text_in form opened.recording) NotWholeBytes
  Ok (bytes, dropped_in form (described opened.recording))
