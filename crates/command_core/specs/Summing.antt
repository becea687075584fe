-- What is printed of a file that was summed, and how a file is judged by that.
use Rattle.std.specs.Prelude.{◌≡◌, ◌↔◌, ◌==◌, if◌then◌else◌, ℕ, Bool, IsTrue, List, [], ◌∷◌, ◌++◌, codes, flat_map, Result, Ok, Err}
use Rattle.std.specs.Fmt.{decimal}
use Rattle.form_core.specs.Infos.{hexadecimal}
use Rattle.std.specs.Prelude.{Vec}
use Rattle.std.specs.declared.alloc.Global.{Global}
use Rattle.folder_core.specs.Files.{View}
use Rattle.transfer_commands.specs.Summing.{SumComesTo, SumsRead}
use Rattle.transfer_commands.specs.declared.summing.Sums.{Sums}
use Rattle.transfer_commands.specs.declared.fault.CommandFault.{CommandFault}

-- a digest after a blank, each byte as two hexadecimal digits
abbrev pub digest_text : List ℕ → List ℕ
digest_text digest = codes " " ++ flat_map hexadecimal digest

-- the rate in hertz, and how many bits each channel has
abbrev pub numbers_text : Sums → List ℕ
numbers_text sums = decimal sums.rate ++ (codes " " ++ decimal sums.count)

-- the same, and the digest of each channel
abbrev pub fields_text : Sums → List ℕ
fields_text sums = numbers_text sums ++ flat_map digest_text sums.digests.items

-- a byte of a name: a backslash, a line feed, a carriage return and a NUL are written as two
abbrev pub escape : ℕ → List ℕ
escape byte = if byte == 92 then 92 ∷ 92 ∷ [] else (if byte == 10 then 92 ∷ 110 ∷ [] else (if byte == 13 then 92 ∷ 114 ∷ [] else (if byte == 0 then 92 ∷ 120 ∷ [] else byte ∷ [])))

-- a name on one line
abbrev pub name_text : List ℕ → List ℕ
name_text name = flat_map escape name

-- the line of a file's sums: the name is after two blanks
abbrev pub sum_text : Sums → List ℕ → List ℕ
sum_text sums name = fields_text sums ++ codes "  " ++ name_text name

-- a byte of a line of a list: a carriage return and a NUL are written as two
abbrev pub escape_stray : ℕ → List ℕ
escape_stray byte = if byte == 13 then 92 ∷ 114 ∷ [] else (if byte == 0 then 92 ∷ 120 ∷ [] else byte ∷ [])

-- a line ends with two blanks and this name on one line, once each of these bytes is written as two
abbrev pub IsNamedIn : List ℕ → List ℕ → Type 0
IsNamedIn line name = (fields : List ℕ) × (flat_map escape_stray line ≡ fields ++ (codes "  " ++ name_text name))

-- bytes that were read of a name have sums whose line this is, and nothing changed
pub record ShowsSums (name : List ℕ) (old new : View) (line : List ℕ) : Type 0 where
  pub sums : Sums
  pub read : SumsRead name old sums
  pub line_is : line ≡ sum_text sums name
  pub same : new ≡ old

-- the folder before and after the line of a file was made came to this
abbrev pub SumLineComesTo : List ℕ → View → View → Result (Vec ℕ Global) CommandFault → Type 0
SumLineComesTo name old new (Ok line) = ShowsSums name old new line.items
SumLineComesTo name old new (Err fault) = SumComesTo name old new (Err fault)

-- bytes that were read under this name have sums, and the answer says whether this is the line of these sums
pub record JudgesLine (name line : List ℕ) (old new : View) (is_listed : Bool) : Type 0 where
  pub made : List ℕ
  pub shows : ShowsSums name old new made
  pub reported : IsTrue is_listed ↔ (made ≡ line)

-- the folder before and after a file was judged by a line came to this
abbrev pub ListedComesTo : List ℕ → List ℕ → View → View → Result Bool CommandFault → Type 0
ListedComesTo name line old new (Ok is_listed) = JudgesLine name line old new is_listed
ListedComesTo name line old new (Err fault) = SumComesTo name old new (Err fault)
