-- What the words of a command line ask for, and why they ask for nothing.
use Rattle.std.specs.Prelude.{◌≡◌, ◌≢◌, ◌⊎◌, ⊤, ℕ, Bool, true, false, List, [], ◌∷◌, Option, None, Some, Result, Ok, Err, Contains, codes, length, map, slice_index}
use Rattle.std.specs.Borrow.{Bor}
use Rattle.form_core.specs.FormNames.{form_named}
use Rattle.place_core.specs.Places.{IsNumbered}
use Rattle.place_core.specs.Times.{IsTimed}
use Rattle.place_core.specs.declared.place.Place.{Place}
use Rattle.place_core.specs.declared.place.Place.TheVariants.{Frame, Mark}
use Rattle.words_core.specs.Lines.{IsLineOf, Line, has_flag, names_of, values_of}
use Rattle.words_core.specs.declared.fault.Misfit.TheVariants.{DopNames, Names}
use Rattle.words_core.specs.declared.fault.WordsFault.{WordsFault}
use Rattle.words_core.specs.declared.fault.WordsFault.TheVariants.{Memory, NoCommand, NoText, UnknownCommand, UnknownForm, WrongUsage}
use Rattle.words_core.specs.declared.options.OptionName.TheVariants as option_names
use Rattle.words_core.specs.declared.options.Options.{Options}
use Rattle.words_core.specs.declared.task.Task.{Task}
use Rattle.words_core.specs.declared.task.Task.TheVariants.{Check, Convert, ConvertDop, Edit, Info, NullTest, Play, PlayBetween, PlayDop, PlayPart, Sum}

-- a part that is asked for begins at a place or ends at one, or both, and what is played between others has one before
-- it or one after it, or both
abbrev pub HasPlaces : Task → Type 0
HasPlaces (PlayPart project input output from to speakers rf64) = from ≡ None → to ≡ None → ⊥
HasPlaces (PlayBetween project input output previous next speakers rf64) = previous ≡ None → next ≡ None → ⊥
HasPlaces _ = ⊤

-- ---- what is asked for
-- a word names this place, or none: `@` (64) and the digits of a frame, `#` (35) and those of a mark, or else a time
pub record NamesPlace (word : List ℕ) (named : Option Place) : Type 0 where
  pub frame : (digits : List ℕ) → word ≡ 64 ∷ digits → IsNumbered Frame digits named
  pub mark : (digits : List ℕ) → word ≡ 35 ∷ digits → IsNumbered Mark digits named
  pub time : slice_index word 0 ≢ 64 → slice_index word 0 ≢ 35 → IsTimed word named

-- an option is there once and names this place, or isn't there
abbrev pub IsGiven : List (List ℕ) → Option Place → Type 0
IsGiven places None = places ≡ []
IsGiven places (Some place) = (word : List ℕ) × (places ≡ word ∷ []) × NamesPlace word (Some place)

-- an option is there once and names this file, or isn't there
abbrev pub IsNamed : List (List ℕ) → Option (Bor (List ℕ)) → Type 0
IsNamed files None = files ≡ []
IsNamed files (Some file) = files ≡ file.now ∷ []

-- this is what the options of a command line say
pub record AreGiven (line : Line) (given : Options) : Type 0 where
  pub from : IsGiven (values_of option_names.From line) given.from
  pub to : IsGiven (values_of option_names.To line) given.to
  pub previous : IsNamed (values_of option_names.Previous line) given.previous
  pub next : IsNamed (values_of option_names.Next line) given.next
  pub speakers : given.speakers ≡ has_flag option_names.Speakers line
  pub rf64 : given.rf64 ≡ has_flag option_names.Rf64 line
  pub dop : given.dop ≡ has_flag option_names.Dop line
  pub check : given.check ≡ has_flag option_names.Check line

-- the command that a task is
abbrev pub command_of : Task → List ℕ
command_of (Play project input output speakers rf64) = codes "play"
command_of (PlayPart project input output from to speakers rf64) = codes "play"
command_of (PlayBetween project input output previous next speakers rf64) = codes "play"
command_of (PlayDop input output) = codes "play"
command_of (Convert form input output speakers) = codes "convert"
command_of (ConvertDop form input output) = codes "convert"
command_of (Edit form project master cert) = codes "edit"
command_of (Check project master cert) = codes "check"
command_of (NullTest mix master) = codes "nulltest"
command_of (Info file) = codes "info"
command_of (Sum is_check files) = codes "sum"

-- the names are those of a task's files in the order of its words, for `convert` and `edit` after the name of its form
abbrev pub AreNamesOf : Task → List (List ℕ) → Type 0
AreNamesOf (Play project input output speakers rf64) names = names ≡ project.now ∷ input.now ∷ output.now ∷ []
AreNamesOf (PlayPart project input output from to speakers rf64) names = names ≡ project.now ∷ input.now ∷ output.now ∷ []
AreNamesOf (PlayBetween project input output previous next speakers rf64) names = names ≡ project.now ∷ input.now ∷ output.now ∷ []
AreNamesOf (PlayDop input output) names = names ≡ input.now ∷ output.now ∷ []
AreNamesOf (Convert form input output speakers) names = (name : List ℕ) × (names ≡ name ∷ input.now ∷ output.now ∷ []) × (form_named name ≡ Some form)
AreNamesOf (ConvertDop form input output) names = (name : List ℕ) × (names ≡ name ∷ input.now ∷ output.now ∷ []) × (form_named name ≡ Some form)
AreNamesOf (Edit form project master cert) names = (name : List ℕ) × (names ≡ name ∷ project.now ∷ master.now ∷ cert.now ∷ []) × (form_named name ≡ Some form)
AreNamesOf (Check project master cert) names = names ≡ project.now ∷ master.now ∷ cert.now ∷ []
AreNamesOf (NullTest mix master) names = names ≡ mix.now ∷ master.now ∷ []
AreNamesOf (Info file) names = names ≡ file.now ∷ []
AreNamesOf (Sum is_check files) names = names ≡ map (λ (file : Bor (List ℕ)). file.now) files.now

-- options say these places and neighbours, and whether there are the flags of `play`
pub record AreOfPlay (given : Options) (start stop : Option Place) (before after : Option (Bor (List ℕ))) (is_spoken is_wide is_dop : Bool) : Type 0 where
  pub from : given.from ≡ start
  pub to : given.to ≡ stop
  pub previous : given.previous ≡ before
  pub next : given.next ≡ after
  pub speakers : given.speakers ≡ is_spoken
  pub rf64 : given.rf64 ≡ is_wide
  pub dop : given.dop ≡ is_dop

-- the options are those of a task: the places of a part, the files before and after what is played, and which flags are
-- there
abbrev pub AreOptionsOf : Task → Options → Type 0
AreOptionsOf (Play project input output speakers rf64) given = AreOfPlay given None None None None speakers rf64 false
AreOptionsOf (PlayPart project input output from to speakers rf64) given = AreOfPlay given from to None None speakers rf64 false
AreOptionsOf (PlayBetween project input output previous next speakers rf64) given = AreOfPlay given None None previous next speakers rf64 false
AreOptionsOf (PlayDop input output) given = AreOfPlay given None None None None false false true
AreOptionsOf (Convert form input output speakers) given = (given.speakers ≡ speakers) × (given.dop ≡ false)
AreOptionsOf (ConvertDop form input output) given = (given.speakers ≡ false) × (given.dop ≡ true)
AreOptionsOf (Sum is_check files) given = given.check ≡ is_check
AreOptionsOf _ given = ⊤

-- a command line asks for a task
pub record LineAsks (line : Line) (task : Task) : Type 0 where
  pub command : line.command ≡ command_of task
  pub names : AreNamesOf task (names_of line)
  pub given : Options
  pub are_given : AreGiven line given
  pub options : AreOptionsOf task given

-- words are a command line that asks for a task
abbrev pub AsksFor : List (List ℕ) → Task → Type 0
AsksFor words task = (line : Line) × IsLineOf words line × LineAsks line task

-- ---- why they ask for nothing
-- a fault of a form is one of `convert` or `edit`, which take a form
abbrev pub TakesForm : WordsFault → Type 0
TakesForm (UnknownForm command form) = (command.now ≡ codes "convert") ⊎ (command.now ≡ codes "edit")
TakesForm _ = ⊤

-- the names of all commands
abbrev pub commands : List (List ℕ)
commands = codes "info" ∷ codes "convert" ∷ codes "play" ∷ codes "edit" ∷ codes "check" ∷ codes "nulltest" ∷ codes "sum" ∷ []

-- a fault that is found while words are read: there are none, the first is no command, the words after the command
-- aren't as it is used, or one of all isn't text
abbrev pub IsUnread : List (List ℕ) → WordsFault → Type 0
IsUnread words NoCommand = words ≡ []
IsUnread words (UnknownCommand word) = (rest : List (List ℕ)) × (words ≡ word.now ∷ rest) × (Contains commands word.now → ⊥)
IsUnread words (WrongUsage command misfit) = (rest : List (List ℕ)) × (words ≡ command.now ∷ rest) × Contains commands command.now
IsUnread words (NoText word) = Contains words word.now
IsUnread words (UnknownForm command form) = ⊥
IsUnread words Memory = ⊤

-- a fault of the names: a miscount is of the names that are there, also of those beside `--dop`, and a form that isn't
-- known is the first of them
abbrev pub IsUnasked : Line → WordsFault → Type 0
IsUnasked line (WrongUsage command (Names count)) = (command.now ≡ line.command) × (count ≡ length (names_of line))
IsUnasked line (WrongUsage command (DopNames count)) = (command.now ≡ line.command) × (count ≡ length (names_of line)) × (has_flag option_names.Dop line ≡ true)
IsUnasked line (UnknownForm command form) = (command.now ≡ line.command) × ((rest : List (List ℕ)) × (names_of line ≡ form.now ∷ rest) × (form_named form.now ≡ None))
IsUnasked line _ = ⊤

-- words ask for nothing, for this reason
abbrev pub AskForNothing : List (List ℕ) → WordsFault → Type 0
AskForNothing words fault = IsUnread words fault ⊎ ((line : Line) × IsLineOf words line × IsUnasked line fault)

-- this is what words ask for: a task, or nothing for a reason
abbrev pub IsAskedBy : List (List ℕ) → Result Task WordsFault → Type 0
IsAskedBy words (Ok task) = AsksFor words task
IsAskedBy words (Err fault) = AskForNothing words fault
