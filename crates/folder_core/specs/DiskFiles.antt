-- What contracts see of a file of the operating system that is being written.
use Rattle.std.specs.Prelude.{◌≡◌, ℕ, ◌<◌, List, [], ◌∷◌, length, nat_lt, if◌then◌else◌, take, Option, None, Some, Result, IfOk, MatchResult}
use Rattle.std.specs.Option.{option_or}
use Rattle.std.specs.Io.KnownBytes.{Appends, append_known}
use Rattle.std.specs.IoError.{error_kind}
use Rattle.std.specs.declared.io.Error.{Error}
use Rattle.std.specs.declared.io.ErrorKind.TheVariants.{WriteZero}
use Rattle.folder_core.specs.declared.direct.Direct.{Direct}
use Rattle.folder_core.specs.declared.direct.Kept.{Kept}
use Rattle.folder_core.specs.declared.direct.Kept.TheVariants.{One, Two}
use Rattle.folder_core.specs.declared.direct.Kept.TheVariants as kept
use Rattle.folder_core.specs.declared.disk_file.Destination.{Destination}
use Rattle.folder_core.specs.declared.disk_file.Destination.TheVariants.{Beside, InPlace, Output}
use Rattle.folder_core.specs.declared.disk_file.DiskFile.{DiskFile}
use Rattle.folder_core.specs.declared.disk_file.Front.{Front}
use Rattle.folder_core.specs.declared.disk_file.Front.TheVariants.{Bytes, Empty, Short}

-- the bytes that are held back
abbrev pub held_bytes : Kept → List ℕ
held_bytes kept.None = []
held_bytes (One byte) = byte ∷ []
held_bytes (Two first second) = first ∷ second ∷ []

-- what the writer holds, where that is known, and then the bytes that are held back
abbrev pub direct_contents : {W : Type 0} → (W → Option (List ℕ)) → Direct W → Option (List ℕ)
direct_contents contents direct = append_known (contents direct.to) (held_bytes direct.kept)

-- what the writer that the bytes go to holds, where that is known, and then the bytes that are held back
abbrev pub destination_contents : {F O : Type 0} → (F → Option (List ℕ)) → (O → Option (List ℕ)) → Destination F O → Option (List ℕ)
destination_contents of_file of_output (Beside file beside) = of_file file
destination_contents of_file of_output (InPlace stands) = direct_contents of_file stands.file
destination_contents of_file of_output (Output output) = direct_contents of_output output

-- what a file's writer holds, where that is known, and then the bytes that are held back
abbrev pub file_contents : {F O : Type 0} → (F → Option (List ℕ)) → (O → Option (List ℕ)) → DiskFile F O → Option (List ℕ)
file_contents of_file of_output file = destination_contents of_file of_output file.destination

-- why the first write of a file that failed did
abbrev pub failure_of : {F O : Type 0} → DiskFile F O → Option Error
failure_of file = file.failure

-- known bytes grow by those of some bytes that a write took, if it succeeded
abbrev pub TakesBytes : {E : Type 0} → Option (List ℕ) → Option (List ℕ) → Result ℕ E → List ℕ → Type 0
TakesBytes old new got bytes = IfOk got (λ count. Appends old new (take count bytes))

-- a write took none of some bytes
abbrev pub TakesNone : ℕ → List ℕ → Type 0
TakesNone count bytes = (count ≡ 0) × (0 < length bytes)

-- it is remembered that a write took nothing, unless a failure was before
abbrev pub NotesUntaken : Option Error → Option Error → Type 0
NotesUntaken old new = (error : Error) × (error_kind error ≡ WriteZero) × (new ≡ option_or old (Some error))

-- a write that took none of some bytes is remembered, and no other
abbrev pub NotesCount : ℕ → List ℕ → Option Error → Option Error → Type 0
NotesCount count bytes old new = (TakesNone count bytes → NotesUntaken old new) × ((TakesNone count bytes → ⊥) → new ≡ old)

-- a write that failed is remembered, unless another was before, and so is one that took none of some bytes
abbrev pub NotesWrite : Result ℕ Error → List ℕ → Option Error → Option Error → Type 0
NotesWrite got bytes old new = MatchResult got (λ count. NotesCount count bytes old new) (λ error. new ≡ option_or old (Some error))

-- a flush that failed is remembered, unless a failure was before
abbrev pub NotesFlush : {T : Type 0} → Result T Error → Option Error → Option Error → Type 0
NotesFlush got old new = MatchResult got (λ done. new ≡ old) (λ error. new ≡ option_or old (Some error))

-- what is remembered of the first write of a file that took some bytes: the first 36 of them, if it took as many
abbrev pub front_begun : List ℕ → Front
front_begun taken = if nat_lt 0 (length taken) then (if nat_lt (length taken) 36 then Short else Bytes (take 36 taken)) else Empty

-- what is remembered after one more write took these bytes
abbrev pub front_after : Front → List ℕ → Front
front_after Empty taken = front_begun taken
front_after (Bytes bytes) taken = Bytes bytes
front_after Short taken = Short

-- the first bytes of a file that is written, if they are remembered
abbrev pub known_front : Front → Option (List ℕ)
known_front (Bytes bytes) = Some bytes
known_front Empty = None
known_front Short = None

-- the first bytes that were written to a file, if its first write took as many
abbrev pub front_of : {F O : Type 0} → DiskFile F O → Option (List ℕ)
front_of file = known_front file.front
