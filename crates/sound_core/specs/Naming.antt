-- The first fault of a file that was read.
use Rattle.std.specs.Prelude.{◌≡◌, ◌≢◌, ℕ, ◌+◌, ◌<◌, Bool, true, false, List, ◌++◌, length, Option, IfSome, Result, Err, IfOk, ⊤}
use Rattle.chunk_core.specs.Inlets.{inlet_reader}
use Rattle.chunk_core.specs.declared.inlet.Inlet.{Inlet}
use Rattle.dsd_bits.specs.declared.sound.Sound.{Sound}
use Rattle.dsdiff_core.specs.declared.fault.DsdiffFault.{DsdiffFault}
use Rattle.dsdiff_core.specs.declared.fault.DsdiffFault.TheVariants as dsdiffs
use Rattle.dsdiff_core.specs.Located.{stated_size}
use Rattle.form_core.specs.Opening.{opened_of}
use Rattle.form_core.specs.declared.fault.ReadFault.{ReadFault}
use Rattle.sound_core.specs.Reads.{Reads}
use Rattle.sound_core.specs.declared.cause.Cause.{Cause}
use Rattle.sound_core.specs.declared.cause.Cause.TheVariants as causes
use Rattle.sound_core.specs.declared.fault.StreamFault.{StreamFault}
use Rattle.sound_core.specs.declared.fault.StreamFault.TheVariants.{FileRefused}
use Rattle.sound_core.specs.declared.fault.Unread.{Unread}
use Rattle.sound_core.specs.declared.fault.Unread.TheVariants as answers
use Rattle.sound_core.specs.declared.reader.SoundReader.{SoundReader}

-- this is the first fault of the bytes that were read, and also of these with the rest of the file, if that is known
pub record IsSure (left : Option (List ℕ)) (read : List ℕ) (fault : ReadFault) : Type 0 where
  pub now : opened_of read ≡ Err fault
  pub later : IfSome left (λ rest. opened_of (read ++ rest) ≡ Err fault)

-- bytes were read, and this is their first fault, and that of the whole file
pub record NamesFault {R : Type 0} (left : R → Option (List ℕ)) (old new : Inlet R) (fault : ReadFault) : Type 0 where
  pub read : List ℕ
  pub reads : Reads left old new read
  pub sure : IsSure (left (inlet_reader new)) read fault

-- if a file that begins with this head and a sound is refused, the cause is its first fault, which the bytes that were
-- read after the sound show, whichever bytes the sound has
abbrev pub IsRestNamed : {R : Type 0} → (R → Option (List ℕ)) → Inlet R → Inlet R → Sound → List ℕ → List ℕ → Cause → StreamFault → Type 0
IsRestNamed left old new s head back cause f = f ≡ FileRefused → (fault : ReadFault) × (cause ≡ causes.Fault fault) × ((read : List ℕ) × Reads left old new read
    × ((sound : List ℕ) → length sound ≡ s.size → IsSure (left (inlet_reader new)) (head ++ (sound ++ (back ++ read))) fault))

-- the same of two states of a reader: the bytes after the sound are those that it had buffered, and those that were
-- read since, and its cause is the first fault
abbrev pub NamesRest : {R : Type 0} → (R → Option (List ℕ)) → SoundReader R → SoundReader R → Sound → List ℕ → StreamFault → Type 0
NamesRest left old new s head f = IsRestNamed left old.inlet.now new.inlet.now s head old.ahead.now.items new.cause f

-- if these bytes were read since some inlet, the fault that is returned is the first one since that inlet
abbrev pub NamesRead : {R : Type 0} → (R → Option (List ℕ)) → SoundReader R → SoundReader R → List ℕ → Result ReadFault StreamFault → Type 0
NamesRead {R} left old new bytes result = (first : Inlet R) → Reads left first old.inlet.now bytes → IfOk result (NamesFault left first new.inlet.now)

-- the first fault of a DSDIFF file with this head and these bytes after its sound, whichever bytes that has
abbrev pub IsFaultAround : List ℕ → List ℕ → ReadFault → Type 0
IsFaultAround head back e = (sound : List ℕ) → length sound ≡ stated_size head → opened_of (head ++ (sound ++ back)) ≡ Err e

-- the first fault of a file of `total` bytes that begins with this head, and ends before its sound does
abbrev pub IsCutFault : List ℕ → Sound → ℕ → ReadFault → Type 0
IsCutFault head s total e = (rest : List ℕ) → length (head ++ rest) ≡ total → total < length head + s.size → opened_of (head ++ rest) ≡ Err e

-- the answer without a file's first fault: `FileRefused` in its place
abbrev pub plain : Unread → StreamFault
plain (answers.Refused e) = FileRefused
plain (answers.Stream f) = f

-- if the answer is a file's first fault, that fault has this property
abbrev pub IfRefusedAs : Unread → (ReadFault → Type 0) → Type 0
IfRefusedAs (answers.Refused e) P = P e
IfRefusedAs (answers.Stream f) P = ⊤

-- a refused file is answered with its first fault, never with `FileRefused` alone
abbrev pub IsExact : Unread → Type 0
IsExact (answers.Refused e) = ⊤
IsExact (answers.Stream f) = f ≢ FileRefused

-- a refused file is answered with its first fault, or with `FileRefused` alone if `P`
abbrev pub IsExactUnless : Type 0 → Unread → Type 0
IsExactUnless P u = u ≡ answers.Stream FileRefused → P

-- whether the fault is out of memory
abbrev pub is_memory : DsdiffFault → Bool
is_memory dsdiffs.Memory = true
is_memory _ = false
