-- What is known of what the program runs on: its files, and the text that it printed.
use Rattle.std.specs.Prelude.{◌≡◌, ℕ, List, Option, None}
use Rattle.std.specs.Io.KnownBytes.{Appends}
use Rattle.chunk_core.specs.Outlets.{AppendsPrefix}
use Rattle.folder_core.specs.Files.{View, unknown_view}

-- what is known of the files, and the text that was printed to standard output, if it is known
pub record State : Type 0 where
  pub view : View
  pub printed : Option (List ℕ)

-- a disk and an output of which nothing is known
abbrev pub unknown_state : State
unknown_state = record { view = unknown_view; printed = None }

-- the files are as they were, and this text was printed after what was printed before
abbrev pub Prints : State → State → List ℕ → Type 0
Prints old new text = (new.view ≡ old.view) × Appends old.printed new.printed text

-- the same of a prefix of this text
abbrev pub PrintsPrefix : State → State → List ℕ → Type 0
PrintsPrefix old new text = (new.view ≡ old.view) × AppendsPrefix old.printed new.printed text

-- the same of some text
abbrev pub PrintsSome : State → State → Type 0
PrintsSome old new = (text : List ℕ) × Prints old new text

-- the files are those of this folder now, and nothing was printed
abbrev pub TakesBack : View → State → State → Type 0
TakesBack view old new = (new.view ≡ view) × (new.printed ≡ old.printed)
