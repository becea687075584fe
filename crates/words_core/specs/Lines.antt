-- How a command line is written: its command, its names and its options.
use Rattle.std.specs.Prelude.{◌≡◌, ◌≢◌, ◌≤◌, ◌⊎◌, ⊤, ℕ, Bool, true, false, List, [], ◌∷◌, ◌++◌, Option, None, Some, All, codes, length, slice_index, unwrap_or, if◌then◌else◌}
use Rattle.std.specs.List.{flat_map, list_any}
use Rattle.words_core.specs.declared.options.OptionName.{OptionName}
use Rattle.words_core.specs.declared.options.OptionName.TheVariants.{From, To, Previous, Next, Speakers, Rf64, Dop, Check}
use Rattle.words_core.specs.declared.options.Taken.{Taken}
use Rattle.words_core.specs.declared.options.Taken.TheVariants.{Nothing, Place, File}

-- what comes after a command: a name, an option that takes nothing, or an option with its value, which is joined to it
-- by `=`, or is a word of its own
pub data Item : Type 0 where
  Name : List ℕ → Item
  Flag : OptionName → Item
  Valued : OptionName → Bool → List ℕ → Item

-- a command line: its command, what comes after it, and after `--`, if that is there, names alone
pub record Line : Type 0 where
  pub command : List ℕ
  pub items : List Item
  pub after_end : Option (List (List ℕ))

-- ---- its words
-- the text of an option, without its hyphens
abbrev pub text_of : OptionName → List ℕ
text_of From = codes "from"
text_of To = codes "to"
text_of Previous = codes "previous"
text_of Next = codes "next"
text_of Speakers = codes "speakers"
text_of Rf64 = codes "rf64"
text_of Dop = codes "dop"
text_of Check = codes "check"

-- an option and its value, as one word or as two
abbrev pub value_words : OptionName → Bool → List ℕ → List (List ℕ)
value_words option true value = ((codes "--" ++ text_of option) ++ codes "=" ++ value) ∷ []
value_words option false value = (codes "--" ++ text_of option) ∷ value ∷ []

-- what comes after a command, as words
abbrev pub item_words : Item → List (List ℕ)
item_words (Name word) = word ∷ []
item_words (Flag option) = (codes "--" ++ text_of option) ∷ []
item_words (Valued option is_joined value) = value_words option is_joined value

-- `--` and the names after it, or nothing
abbrev pub end_words : Option (List (List ℕ)) → List (List ℕ)
end_words None = []
end_words (Some names) = codes "--" ∷ names

-- the words of a command line
abbrev pub line_words : Line → List (List ℕ)
line_words line = line.command ∷ (flat_map item_words line.items ++ end_words line.after_end)

-- ---- what may be written
-- a word that is a name where options may come: it doesn't begin with a hyphen (45), or is only that
abbrev pub IsName : List ℕ → Type 0
IsName word = slice_index word 0 ≡ 45 → length word ≤ 1

-- a value that is a word of its own doesn't begin with `--`
abbrev pub IsValueWord : Bool → List ℕ → Type 0
IsValueWord true value = Unit {0}
IsValueWord false value = (rest : List ℕ) → value ≢ codes "--" ++ rest

-- what follows an option: nothing, a place or the name of a file
abbrev pub IsTaken : OptionName → Taken → Type 0
IsTaken From taken = taken ≡ Place
IsTaken To taken = taken ≡ Place
IsTaken Previous taken = taken ≡ File
IsTaken Next taken = taken ≡ File
IsTaken _ taken = taken ≡ Nothing

-- nothing follows an option
abbrev pub TakesNothing : OptionName → Type 0
TakesNothing option = IsTaken option Nothing

-- a place or the name of a file follows an option
abbrev pub TakesValue : OptionName → Type 0
TakesValue option = IsTaken option Place ⊎ IsTaken option File

-- an option of `play`, as all but `check` are
abbrev pub IsOfPlay : OptionName → Type 0
IsOfPlay Check = ⊥
IsOfPlay _ = ⊤

-- an option of `convert`
abbrev pub IsOfConvert : OptionName → Type 0
IsOfConvert Speakers = ⊤
IsOfConvert Dop = ⊤
IsOfConvert _ = ⊥

-- an option of a command: those of `play`, those of `convert`, and `check` of `sum`
abbrev pub Takes : List ℕ → OptionName → Type 0
Takes command option = ((command ≡ codes "play") × IsOfPlay option) ⊎ (((command ≡ codes "convert") × IsOfConvert option) ⊎ ((command ≡ codes "sum") × (option ≡ Check)))

-- a word is an option of a command, without its hyphens
abbrev pub IsOptionOf : List ℕ → List ℕ → Type 0
IsOptionOf command word = (option : OptionName) × (word ≡ text_of option) × Takes command option

-- what may come after a command: names, and its options
abbrev pub IsItemOf : List ℕ → Item → Type 0
IsItemOf command (Name word) = IsName word
IsItemOf command (Flag option) = Takes command option × TakesNothing option
IsItemOf command (Valued option is_joined value) = Takes command option × TakesValue option × IsValueWord is_joined value

-- words are a command line
pub record IsLineOf (words : List (List ℕ)) (line : Line) : Type 0 where
  pub words_are : words ≡ line_words line
  pub may_come : All (IsItemOf line.command) line.items

-- ---- what it says
-- the name that an item is, if it is one
abbrev pub name_in : Item → List (List ℕ)
name_in (Name word) = word ∷ []
name_in (Flag option) = []
name_in (Valued option is_joined value) = []

-- the names of a command line, in order: the words that are no options and no values, and all after `--`
abbrev pub names_of : Line → List (List ℕ)
names_of line = flat_map name_in line.items ++ unwrap_or line.after_end []

-- whether two options are the same
abbrev pub are_same : OptionName → OptionName → Bool
are_same From From = true
are_same To To = true
are_same Previous Previous = true
are_same Next Next = true
are_same Speakers Speakers = true
are_same Rf64 Rf64 = true
are_same Dop Dop = true
are_same Check Check = true
are_same _ _ = false

-- the value of an option, if an item is that
abbrev pub value_in : OptionName → Item → List (List ℕ)
value_in option (Name word) = []
value_in option (Flag other) = []
value_in option (Valued other is_joined value) = if are_same option other then value ∷ [] else []

-- the values of an option
abbrev pub values_of : OptionName → Line → List (List ℕ)
values_of option line = flat_map (value_in option) line.items

-- whether an item is this option, which takes nothing
abbrev pub is_flag : OptionName → Item → Bool
is_flag option (Name word) = false
is_flag option (Flag other) = are_same option other
is_flag option (Valued other is_joined value) = false

-- whether an option that takes nothing is among the items
abbrev pub has_flag : OptionName → Line → Bool
has_flag option line = list_any (is_flag option) line.items
