-- What is known of the files of a folder, and what is read and written of them.
use Rattle.std.specs.Prelude.{◌≡◌, ◌≢◌, ℕ, Bool, IsTrue, false, List, ◌++◌, Option, None, Some, ◌⊎◌}
use Rattle.std.specs.List.{AllZip}
use Rattle.folder_core.specs.declared.fault.FileFault.{FileFault}
use Rattle.folder_core.specs.declared.fault.FileFault.TheVariants.{ReadFailed, WriteFailed, Memory}

-- the bytes that are known under each name
abbrev pub Files : Type 0
Files = List ℕ → Option (List ℕ)

-- what is known of a folder: whether the bytes of its readers and writers are, what an opening of each name gives at
-- each time, what was put under each name last, and whether giving a file up leaves an old one as it was
pub record View : Type 0 where
  pub is_known : Bool
  pub given : ℕ → Files
  pub file : Files
  pub keeps_old : Bool

-- a folder of which nothing is known
abbrev pub unknown_view : View
unknown_view = record { is_known = false; given = λ time name. None; file = λ name. None; keeps_old = false }

-- an opening of a name gives these bytes, at some time
abbrev pub OpensAs : View → List ℕ → List ℕ → Type 0
OpensAs view name bytes = (time : ℕ) × (view.given time name ≡ Some bytes)

-- a name could be opened: if the folder's bytes are known, there are some that an opening of the name gives
abbrev pub Opens : View → List ℕ → Type 0
Opens view name = IsTrue view.is_known → (bytes : List ℕ) × OpensAs view name bytes

-- bytes were read of a name: if the folder's bytes are known, an opening of the name gives them
abbrev pub IsReadOf : View → List ℕ → List ℕ → Type 0
IsReadOf view name bytes = IsTrue view.is_known → OpensAs view name bytes

-- bytes were read of names, one by one
abbrev pub AreReadOf : View → List (List ℕ) → List (List ℕ) → Type 0
AreReadOf view names files = AllZip (IsReadOf view) names files

-- if the folder's bytes are known, a reader has those left that an opening of the name gives
abbrev pub IsGiven : View → List ℕ → Option (List ℕ) → Type 0
IsGiven view name left = IsTrue view.is_known → (bytes : List ℕ) × OpensAs view name bytes × (left ≡ Some bytes)

-- if the folder's bytes are known, these were put under a name
abbrev pub IsPut : View → List ℕ → List ℕ → Type 0
IsPut view name bytes = IsTrue view.is_known → view.file name ≡ Some bytes

-- the folder is unchanged except for what was put under this name, and what openings give
pub record KeepsOthers (name : List ℕ) (old new : View) : Type 0 where
  pub others : (other : List ℕ) → other ≢ name → new.file other ≡ old.file other
  pub same_known : new.is_known ≡ old.is_known
  pub same_keeping : new.keeps_old ≡ old.keeps_old

-- under every name but two is what was there
abbrev pub KeepsAllBut : List ℕ → List ℕ → View → View → Type 0
KeepsAllBut name second old new = (other : List ℕ) → other ≢ name → other ≢ second → new.file other ≡ old.file other

-- in a folder that keeps old files there was none under a name
abbrev pub HadNone : List ℕ → View → Type 0
HadNone name old = IsTrue old.keeps_old → old.file name ≡ None

-- a name has what it had, or what is known of a file that was given up; the latter only if no old file had to be kept
abbrev pub IsGivenUp : List ℕ → View → View → Option (List ℕ) → Type 0
IsGivenUp name old new held = (new.file name ≡ old.file name) ⊎ ((new.file name ≡ held) × HadNone name old)

-- a created file was not kept: under its name is what was there, or it was not written whole, and was given up
abbrev pub IsEnded : List ℕ → View → View → Bool → Option (List ℕ) → Type 0
IsEnded name old new is_whole held = (new.file name ≡ old.file name) ⊎ ((is_whole ≡ false) × (IsTrue old.is_known → IsGivenUp name old new held))

-- a file holds a prefix of some bytes now, and no old file had to be kept
pub record HoldsPrefix (name : List ℕ) (old new : View) (bytes : List ℕ) : Type 0 where
  pub prefix : List ℕ
  pub rest : List ℕ
  pub parts : bytes ≡ prefix ++ rest
  pub stands : new.file name ≡ Some prefix
  pub had_none : HadNone name old

-- if the folder's bytes are known, a file is unchanged, or holds a prefix of some bytes and no old file had to be kept
abbrev pub IsPutInPart : List ℕ → View → View → List ℕ → Type 0
IsPutInPart name old new bytes = IsTrue old.is_known → (new.file name ≡ old.file name) ⊎ HoldsPrefix name old new bytes

-- a file could not be read: a read failed, or memory ran out
abbrev pub IsReadFault : FileFault → Type 0
IsReadFault ReadFailed = Unit {0}
IsReadFault Memory = Unit {0}
IsReadFault WriteFailed = ⊥
