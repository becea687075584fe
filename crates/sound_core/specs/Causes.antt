-- What is known about the first fault of a file that holds no recording.
use Rattle.std.specs.Prelude.{◌≡◌, ◌≢◌, ◌≤◌, ◌⊎◌, ℕ, ◌+◌, List, ◌++◌, length, take, Option, Result, Ok, Err, IfOk, ⊤}
use Rattle.chunk_core.specs.Inlets.{inlet_given}
use Rattle.chunk_core.specs.declared.inlet.Inlet.{Inlet}
use Rattle.dsdiff_core.specs.Cuts.{GoesPastForm}
use Rattle.dsdiff_core.specs.Faulty.{IsFaulty, next_place}
use Rattle.dsdiff_core.specs.Headers.{form_of}
use Rattle.dsdiff_core.specs.Located.{EndsAtHead}
use Rattle.form_core.specs.Opening.{opened_of}
use Rattle.form_core.specs.declared.fault.ReadFault.{ReadFault}
use Rattle.sound_core.specs.declared.cause.Cause.{Cause}
use Rattle.sound_core.specs.declared.cause.Cause.TheVariants as causes
use Rattle.sound_core.specs.declared.fault.StreamFault.{StreamFault}
use Rattle.sound_core.specs.declared.fault.StreamFault.TheVariants.{FileRefused}
use Rattle.sound_core.specs.declared.fault.Unread.{Unread}
use Rattle.sound_core.specs.declared.fault.Unread.TheVariants as answers
use Rattle.sound_core.specs.declared.reader.SoundReader.{SoundReader}
use Rattle.sound_core.specs.Faults.{IsReadingFault}
use Rattle.sound_core.specs.Files.{IsRefused}
use Rattle.sound_core.specs.Naming.{IfRefusedAs, NamesFault, plain}
use Rattle.sound_core.specs.Readers.{CountsFault, IsReading, IsSame}
use Rattle.sound_core.specs.Reads.{Reads}

-- what the cause says is true of every file that begins with these bytes
abbrev pub IsCauseIn : List ℕ → Cause → Type 0
IsCauseIn prefix causes.Unknown = ⊥
IsCauseIn prefix (causes.Fault e) = (rest : List ℕ) → opened_of (prefix ++ rest) ≡ Err e
IsCauseIn prefix (causes.Unstated at) = (at + 12 ≤ length prefix) × EndsAtHead (take (at + 12) prefix)
IsCauseIn prefix (causes.PastForm at) = (at + 12 ≤ length prefix) × GoesPastForm (take (at + 12) prefix)
IsCauseIn prefix (causes.Faulty s) = (next_place s ≤ length prefix) × ((rest : List ℕ) → IsFaulty (prefix ++ rest) s)
IsCauseIn prefix causes.NoSound = form_of prefix ≡ Ok tt

-- the first fault isn't known yet: the buffered prefix only shows that no file that begins with it holds a recording
abbrev pub HasPrefix : Cause → Type 0
HasPrefix causes.Unknown = ⊥
HasPrefix (causes.Fault e) = ⊥
HasPrefix (causes.Unstated at) = ⊤
HasPrefix (causes.PastForm at) = ⊤
HasPrefix (causes.Faulty s) = ⊤
HasPrefix causes.NoSound = ⊤

-- all that was read is buffered; what the cause says is true of every file that begins with it, and none of them holds
-- a recording
pub record IsUnsure {R : Type 0} (left : R → Option (List ℕ)) (first : Inlet R) (r : SoundReader R) (cause : Cause) : Type 0 where
  pub reading : IsReading r
  pub reads : Reads left first r.inlet.now r.ahead.now.items
  pub given : inlet_given r.inlet.now ≡ r.given + length r.ahead.now.items
  pub states : IsCauseIn r.ahead.now.items cause
  pub refused : (rest : List ℕ) → IsRefused (r.ahead.now.items ++ rest)

-- what the cause of a refused file says; for `Unknown` it is `P`
abbrev pub IsCause : {R : Type 0} → Type 0 → (R → Option (List ℕ)) → Inlet R → SoundReader R → Cause → Type 0
IsCause P left first r causes.Unknown = P
IsCause P left first r (causes.Fault e) = NamesFault left first r.inlet.now e
IsCause P left first r (causes.Unstated at) = IsUnsure left first r (causes.Unstated at)
IsCause P left first r (causes.PastForm at) = IsUnsure left first r (causes.PastForm at)
IsCause P left first r (causes.Faulty s) = IsUnsure left first r (causes.Faulty s)
IsCause P left first r causes.NoSound = IsUnsure left first r causes.NoSound

-- if the fault is `FileRefused`, what the reader's cause says is true
abbrev pub IsNamed : {R : Type 0} → Type 0 → (R → Option (List ℕ)) → Inlet R → SoundReader R → StreamFault → Type 0
IsNamed P left first r f = f ≡ FileRefused → IsCause P left first r r.cause

-- the answer with a file's first fault, or with the fault of reading on to find it
abbrev pub unread_of : Result ReadFault StreamFault → Unread
unread_of (Ok e) = answers.Refused e
unread_of (Err f) = answers.Stream f

-- the answer for a refused file with this cause: its first fault; or a fault of reading on to find it; or, if the cause
-- is unknown, only that the file is refused
abbrev pub IsRefusedBy : Cause → Unread → Type 0
IsRefusedBy cause (answers.Refused e) = ⊤
IsRefusedBy cause (answers.Stream f) = (IsReadingFault f × HasPrefix cause) ⊎ ((f ≡ FileRefused) × (cause ≡ causes.Unknown))

-- the answer for a fault: the fault itself, and nothing was read; or, for a refused file, what its cause leads to
abbrev pub IsUnreadBy : {R : Type 0} → StreamFault → SoundReader R → SoundReader R → Unread → Type 0
IsUnreadBy f old new u = ((f ≢ FileRefused) × (u ≡ answers.Stream f) × (new ≡ old)) ⊎ ((f ≡ FileRefused) × IsRefusedBy old.cause u)

-- ---- from one state of a reader to a later one

-- what the reader's cause says is true of what was read since some inlet
abbrev pub HasCause : {R : Type 0} → (R → Option (List ℕ)) → SoundReader R → Type 0
HasCause {R} left r = (first : Inlet R) × IsCause ⊤ left first r r.cause

-- if the cause is true of what was read since some inlet, the fault that is returned is the first one since that inlet
abbrev pub NamesUnsure : {R : Type 0} → (R → Option (List ℕ)) → SoundReader R → SoundReader R → Cause → Result ReadFault StreamFault → Type 0
NamesUnsure {R} left old new cause result = (first : Inlet R) → IsUnsure left first old cause → IfOk result (NamesFault left first new.inlet.now)

-- if the reader's cause is true of what was read since some inlet, the answer's fault of a file is the first one since
-- that inlet
abbrev pub AnswersCause : {R : Type 0} → (R → Option (List ℕ)) → SoundReader R → SoundReader R → Unread → Type 0
AnswersCause {R} left old new u = (first : Inlet R) → IsCause ⊤ left first old old.cause → IfRefusedAs u (NamesFault left first new.inlet.now)

-- the same of a reading that ended with this fault: the cause has to be true only if that is `FileRefused`
abbrev pub AnswersFault : {R : Type 0} → (R → Option (List ℕ)) → SoundReader R → SoundReader R → StreamFault → Unread → Type 0
AnswersFault {R} left old new f u = (first : Inlet R) → IsNamed ⊤ left first old f → IfRefusedAs u (NamesFault left first new.inlet.now)

-- what was counted with the fault, since any earlier state of the reader, is counted with the answer
abbrev pub CountsAnswer : {R : Type 0} → SoundReader R → SoundReader R → StreamFault → Unread → Type 0
CountsAnswer {R} old new f u = (start : SoundReader R) → IsSame start old → CountsFault start old f → CountsFault start new (plain u)
