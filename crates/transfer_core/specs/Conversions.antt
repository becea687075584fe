-- What is converted from a reader to a writer, and which faults apply.
use Rattle.std.specs.Prelude.{ℕ, List, Option, IfSome}
use Rattle.std.specs.Io.KnownBytes.{Appends}
use Rattle.chunk_core.specs.Outlets.{AppendsPrefix}
use Rattle.chunk_core.specs.declared.inlet.Inlet.{Inlet}
use Rattle.sound_core.specs.Outlines.{AreAround, Surroundings}
use Rattle.sound_core.specs.Reads.{Reads}
use Rattle.form_core.specs.declared.form.Form.{Form}
use Rattle.form_core.specs.Parts.{FitsIn}
use Rattle.sound_core.specs.Relays.{IsRelayFault}
use Rattle.request_core.specs.declared.fault.Fault.{Fault}
use Rattle.request_core.specs.declared.fault.Fault.TheVariants.{NotWholeBytes}
use Rattle.transfer_core.specs.Converting.{Converts, Keeps}
use Rattle.request_core.specs.Faults.{OfStream}

-- if the reader's file is known, what it is converted to was written, and `dropped` parts of its recording are not in
-- that; it keeps the sound, and all of the recording if none was dropped
abbrev pub ConvertsReader : Option (List ℕ) → Form → Option (List ℕ) → Option (List ℕ) → ℕ → Type 0
ConvertsReader left form held_old held_new dropped = IfSome left (λ file. (bytes : List ℕ) × Converts file form bytes dropped × Keeps file form bytes dropped × Appends held_old held_new bytes)

-- the reader returned some bytes, as many as were counted, and what they are converted to was written and keeps as much;
-- this also holds if its bytes aren't known
abbrev pub ConvertsGiven : {R : Type 0} → (R → Option (List ℕ)) → Inlet R → Inlet R → Form → Option (List ℕ) → Option (List ℕ) → ℕ → Type 0
ConvertsGiven left old new form held_old held_new dropped = (read : List ℕ) × (bytes : List ℕ) × Reads left old new read × Converts read form bytes dropped × Keeps read form bytes dropped × Appends held_old held_new bytes

-- a prefix of what any file with these bytes around its sound is converted to was written
abbrev pub ConvertsPrefix : Option (List ℕ) → Surroundings → Form → Option (List ℕ) → Option (List ℕ) → Type 0
ConvertsPrefix left o form held_old held_new = IfSome left (λ file. AreAround o file → (bytes : List ℕ) (dropped : ℕ) → Converts file form bytes dropped → AppendsPrefix held_old held_new bytes)

-- this fault applies: the channels end inside a byte, or it is one of re-interleaving
abbrev pub ConversionApplies : Option (List ℕ) → Surroundings → Form → Fault → Type 0
ConversionApplies left o form NotWholeBytes = FitsIn form o.sound.count → ⊥
ConversionApplies left o form fault = OfStream (IsRelayFault left o) fault
