-- What is read of a command line, and what is known while it is read.
use Rattle.std.specs.Prelude.{◌≡◌, ◌⊎◌, ⊤, ℕ, true, false, List, [], ◌∷◌, ◌++◌, None, Some, All, codes, length, map}
use Rattle.std.specs.Borrow.{Bor}
use Rattle.place_core.specs.declared.place.Place.{Place}
use Rattle.form_core.specs.FormNames.{form_named}
use Rattle.words_core.specs.Asked.{AreGiven, AreNamesOf, AreOptionsOf, HasPlaces, NamesPlace, TakesForm, command_of}
use Rattle.words_core.specs.Lines.{IsItemOf, IsLineOf, IsTaken, Line, Takes, TakesValue, line_words, names_of, text_of, values_of}
use Rattle.words_core.specs.declared.options.OptionName.{OptionName}
use Rattle.words_core.specs.declared.options.OptionName.TheVariants as option_names
use Rattle.words_core.specs.declared.options.Options.{Options}
use Rattle.words_core.specs.declared.options.Taken.TheVariants as taken
use Rattle.words_core.specs.declared.reading.Words.{Words}
use Rattle.words_core.specs.declared.reading.Next.{Next}
use Rattle.words_core.specs.declared.reading.Next.TheVariants.{Any, ValueOf, NameOnly}
use Rattle.words_core.specs.declared.fault.WordsFault.{WordsFault}
use Rattle.words_core.specs.declared.fault.WordsFault.TheVariants.{Memory, UnknownForm, WrongUsage}
use Rattle.words_core.specs.declared.fault.Misfit.TheVariants.{DopNames, Names}
use Rattle.words_core.specs.declared.task.Task.{Task}

-- the texts of words
abbrev pub texts : List (Bor (List ℕ)) → List (List ℕ)
texts words = map (λ (word : Bor (List ℕ)). word.now) words

-- this was read of a command line
pub record IsReadAs (line : Line) (read : Words) : Type 0 where
  pub command : read.command.now ≡ line.command
  pub names : texts read.names.items ≡ names_of line
  pub options : AreGiven line read.options

-- words are a command line of which this was read
abbrev pub IsReadFrom : List (List ℕ) → Words → Type 0
IsReadFrom words read = (line : Line) × IsLineOf words line × IsReadAs line read

-- ---- between two words
-- an option that waits for its value
abbrev pub waiting_words : Next → List (List ℕ)
waiting_words Any = []
waiting_words (ValueOf option) = (codes "--" ++ text_of option) ∷ []
waiting_words NameOnly = []

-- an option of the command that takes a value, and isn't there yet
pub record IsAwaited (option : OptionName) (line : Line) : Type 0 where
  pub taken : Takes line.command option
  pub value : TakesValue option
  pub absent : values_of option line ≡ []

-- what may come next on a command line: anything, the value of an option, or after `--` names alone
abbrev pub IsNext : Next → Line → Type 0
IsNext Any line = line.after_end ≡ None
IsNext (ValueOf option) line = (line.after_end ≡ None) × IsAwaited option line
IsNext NameOnly line = (names : List (List ℕ)) × (line.after_end ≡ Some names)

-- some words are a command line, after which an option may wait for its value, and this was read of them
pub record IsReadUpTo (words : List (List ℕ)) (read : Words) : Type 0 where
  pub line : Line
  pub words_are : words ≡ line_words line ++ waiting_words read.next
  pub may_come : All (IsItemOf line.command) line.items
  pub next : IsNext read.next line
  pub is_read : IsReadAs line read

-- one more word was read of a command line
abbrev pub ReadsWord : Words → List ℕ → Words → Type 0
ReadsWord old word new = (words : List (List ℕ)) → IsReadUpTo words old → IsReadUpTo (words ++ word ∷ []) new

-- a name was added, and nothing else changed
pub record AddsName (old : Words) (word : List ℕ) (new : Words) : Type 0 where
  pub names : texts new.names.items ≡ texts old.names.items ++ word ∷ []
  pub command : new.command ≡ old.command
  pub options : new.options ≡ old.options
  pub next : new.next ≡ old.next

-- no option is there
pub record AreNone (given : Options) : Type 0 where
  pub from : given.from ≡ None
  pub to : given.to ≡ None
  pub previous : given.previous ≡ None
  pub next : given.next ≡ None
  pub speakers : given.speakers ≡ false
  pub rf64 : given.rf64 ≡ false
  pub dop : given.dop ≡ false
  pub check : given.check ≡ false

-- an option isn't there, if it takes a value
abbrev pub IsFree : OptionName → Options → Type 0
IsFree option_names.From given = given.from ≡ None
IsFree option_names.To given = given.to ≡ None
IsFree option_names.Previous given = given.previous ≡ None
IsFree option_names.Next given = given.next ≡ None
IsFree _ given = ⊤

-- an option that takes nothing was noted, and no other option changed
abbrev pub SetsFlag : OptionName → Options → Options → Type 0
SetsFlag option_names.Speakers old new = new ≡ record old { speakers = true }
SetsFlag option_names.Rf64 old new = new ≡ record old { rf64 = true }
SetsFlag option_names.Dop old new = new ≡ record old { dop = true }
SetsFlag option_names.Check old new = new ≡ record old { check = true }
SetsFlag _ old new = new ≡ old

-- the place of an option was noted, and no other option changed
abbrev pub SetsPlace : OptionName → Place → Options → Options → Type 0
SetsPlace option_names.From place old new = new ≡ record old { from = Some place }
SetsPlace option_names.To place old new = new ≡ record old { to = Some place }
SetsPlace _ place old new = new ≡ old

-- the file of an option was noted, and no other option changed
abbrev pub SetsFile : OptionName → Bor (List ℕ) → Options → Options → Type 0
SetsFile option_names.Previous file old new = new ≡ record old { previous = Some file }
SetsFile option_names.Next file old new = new ≡ record old { next = Some file }
SetsFile _ file old new = new ≡ old

-- the value of an option was noted: the place that this word names, or the word as a file
abbrev pub SetsValue : OptionName → List ℕ → Options → Options → Type 0
SetsValue option word old new = (IsTaken option taken.Place × ((place : Place) × NamesPlace word (Some place) × SetsPlace option place old new))
    ⊎ (IsTaken option taken.File × ((file : Bor (List ℕ)) × (file.now ≡ word) × SetsFile option file old new))

-- the value of an option was noted, and nothing else changed
abbrev pub AddsValue : Words → OptionName → List ℕ → Words → Type 0
AddsValue old option word new = (given : Options) × SetsValue option word old.options given × (new ≡ record old { options = given })

-- a fault of the words after a command
abbrev pub IsMisused : List ℕ → WordsFault → Type 0
IsMisused command (WrongUsage named misfit) = named.now ≡ command
IsMisused command Memory = ⊤
IsMisused command _ = ⊥

-- no place of a part is there
abbrev pub HasNoPart : Options → Type 0
HasNoPart given = (given.from ≡ None) × (given.to ≡ None)

-- no file before or after is there
abbrev pub HasNoNeighbour : Options → Type 0
HasNoNeighbour given = (given.previous ≡ None) × (given.next ≡ None)

-- no option of a WAVE file's header is there
abbrev pub HasPlainHeader : Options → Type 0
HasPlainHeader given = (given.speakers ≡ false) × (given.rf64 ≡ false)

-- options may be together: of places and files only one kind is there, and with `--dop` none of them, and none of the
-- header
pub record AreTogether (given : Options) : Type 0 where
  pub alone : HasNoPart given ⊎ HasNoNeighbour given
  pub dop : given.dop ≡ true → HasNoPart given × HasNoNeighbour given × HasPlainHeader given

-- what was read asks for a task of this command
pub record ReadAsks (command : List ℕ) (read : Words) (task : Task) : Type 0 where
  pub command_is : command ≡ command_of task
  pub names : AreNamesOf task (texts read.names.items)
  pub options : AreOptionsOf task read.options
  pub places : HasPlaces task

-- what was read asks for nothing: a miscount is of its names, also of those beside `--dop`, and a form that isn't known
-- is the first of them
abbrev pub ReadRefused : List ℕ → Words → WordsFault → Type 0
ReadRefused command read (WrongUsage named (Names count)) = (named.now ≡ read.command.now) × (count ≡ length (texts read.names.items))
ReadRefused command read (WrongUsage named (DopNames count)) = (named.now ≡ read.command.now) × (count ≡ length (texts read.names.items)) × (read.options.dop ≡ true)
ReadRefused command read (UnknownForm named form) = (named.now ≡ command) × TakesForm (UnknownForm named form) × ((rest : List (List ℕ)) × (texts read.names.items ≡ form.now ∷ rest) × (form_named form.now ≡ None))
ReadRefused command read _ = ⊤
