-- What was read piece by piece.
use Rattle.std.specs.Prelude.{◌≡◌, ◌≤◌, ◌<◌, ℕ, Bool, true, false, List, ◌++◌, length, Option, IfSome, Err, ⊤}
use Rattle.std.specs.Io.KnownBytes.{IsAtEnd}
use Rattle.chunk_core.specs.Inlets.{PullsBytes, inlet_reader}
use Rattle.chunk_core.specs.declared.inlet.Inlet.{Inlet}
use Rattle.dop_core.specs.Reading.{recording_of}
use Rattle.dop_core.specs.declared.fault.DopFault.{DopFault}
use Rattle.dop_core.specs.declared.stop.DopStop.{DopStop}
use Rattle.dop_core.specs.declared.stop.DopStop.TheVariants as stops

-- the piece is what was read, and has `size` bytes if it is whole; else the file ended before
pub record PieceIs {R : Type 0} (left : R → Option (List ℕ)) (old new : Inlet R) (piece : List ℕ) (size : ℕ) (is_whole : Bool) : Type 0 where
  pub pulled : PullsBytes left old new piece
  pub few : length piece ≤ size
  pub whole : is_whole ≡ true → length piece ≡ size
  pub short : is_whole ≡ false → length piece < size
  pub at_end : is_whole ≡ false → IsAtEnd (left (inlet_reader new))

-- what is held grew by what was read, up to `wanted` bytes if that is whole; else the file ended before
pub record HoldsMore {R : Type 0} (left : R → Option (List ℕ)) (old new : Inlet R) (held_old held_new : List ℕ) (wanted : ℕ) (is_whole : Bool) : Type 0 where
  pub read : List ℕ
  pub pulled : PullsBytes left old new read
  pub appended : held_new ≡ held_old ++ read
  pub whole : is_whole ≡ true → length held_new ≡ wanted
  pub short : is_whole ≡ false → length held_new < wanted
  pub at_end : is_whole ≡ false → IsAtEnd (left (inlet_reader new))

-- this is the first fault of bytes and what was read after them, and of these with the rest of the file, if that is known
pub record NamesAfter {R : Type 0} (left : R → Option (List ℕ)) (old new : Inlet R) (before : List ℕ) (fault : DopFault) : Type 0 where
  pub read : List ℕ
  pub pulled : PullsBytes left old new read
  pub now : recording_of (before ++ read) ≡ Err fault
  pub later : IfSome (left (inlet_reader new)) (λ rest. recording_of (before ++ (read ++ rest)) ≡ Err fault)

-- P holds of the first fault, if a file was refused for one
abbrev pub IfRefused : DopStop → (DopFault → Type 0) → Type 0
IfRefused (stops.Refused fault) P = P fault
IfRefused stops.ReadFailed P = ⊤
IfRefused stops.WriteFailed P = ⊤
IfRefused stops.Changed P = ⊤
IfRefused stops.Memory P = ⊤

-- a fault of a device or of memory, which says nothing of the file
abbrev pub IsOutside : DopStop → Type 0
IsOutside (stops.Refused fault) = ⊥
IsOutside stops.ReadFailed = ⊤
IsOutside stops.WriteFailed = ⊥
IsOutside stops.Changed = ⊥
IsOutside stops.Memory = ⊤
