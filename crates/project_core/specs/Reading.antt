-- Reading a table from key to key, to a value or the first fault.
use Rattle.std.specs.Prelude.{ℕ, ◌+◌, ◌^◌, ℤ, pos, negsuc, List, Option, Some, None, Result, Ok, Err, Bool, ◌&&◌, nat_le, nat_lt, if◌then◌else◌, length}
use Rattle.std.specs.Option.{ok_or}
use Rattle.toml.specs.Data.{Data, Items, Members, get_member, as_integer, as_str, as_array, as_table}
use Rattle.project_core.specs.declared.key.Key.{Key}
use Rattle.project_core.specs.declared.key.Table.{Table}
use Rattle.project_core.specs.declared.fault.ProjectFault.{ProjectFault}
use Rattle.project_core.specs.declared.fault.ProjectFault.TheVariants.{NotToml, UnknownKey, MissingKey, WrongKind, OutOfLimit}
use Rattle.project_core.specs.Keys.{key_name}
use Rattle.project_core.specs.Steps.{◌>>=◌, each}
use Rattle.project_core.specs.Tables.{has_only, list_of, table_in}

-- the document that the bytes are
unfoldable pub document : List ℕ → Result Members ProjectFault
document bytes = ok_or (table_in bytes) NotToml

-- the value at a key that the table must have
unfoldable pub value_at : Key → Table → Members → Result Data ProjectFault
value_at key place table = ok_or (get_member (key_name key) table) (MissingKey key place)

-- the integer that the value at a key is
abbrev pub integer_of : Key → Table → Data → Result ℤ ProjectFault
integer_of key place d = ok_or (as_integer d) (WrongKind key place)

-- the text that the value at a key is
abbrev pub text_of : Key → Table → Data → Result (List ℕ) ProjectFault
text_of key place d = ok_or (as_str d) (WrongKind key place)

-- the array that the value at a key is
abbrev pub array_of : Key → Table → Data → Result Items ProjectFault
array_of key place d = ok_or (as_array d) (WrongKind key place)

-- the table that the value at a key is, which is at this place and has no keys but these
unfoldable pub table_of : Key → Table → List Key → Data → Result Members ProjectFault
table_of key place keys d = do
  table ← ok_or (as_table d) (WrongKind key place)
  if has_only keys table then Ok table else Err (UnknownKey place)

-- a number of 32 bits with no sign
abbrev pub unsigned_of : Key → Table → ℤ → Result ℕ ProjectFault
unsigned_of key place (pos n) = if nat_lt n (2 ^ 32) then Ok n else Err (OutOfLimit key place)
unsigned_of key place (negsuc n) = Err (OutOfLimit key place)

-- a number fits 32 bits with a sign
abbrev pub fits_i32 : ℤ → Bool
fits_i32 (pos n) = nat_lt n (2 ^ 31)
fits_i32 (negsuc n) = nat_lt n (2 ^ 31)

-- a number of 32 bits with a sign
abbrev pub signed_of : Key → Table → ℤ → Result ℤ ProjectFault
signed_of key place z = if fits_i32 z then Ok z else Err (OutOfLimit key place)

-- a number that isn't negative and is below a bound
abbrev pub below : ℕ → ℤ → Option ℕ
below bound (pos n) = if nat_lt n bound then Some n else None
below bound (negsuc n) = None

-- the number of 32 bits with no sign at a key
unfoldable pub unsigned_at : Key → Table → Members → Result ℕ ProjectFault
unsigned_at key place table = do
  d ← value_at key place table
  z ← integer_of key place d
  unsigned_of key place z

-- the number at a key, from 0 to a limit
unfoldable pub limited_at : Key → Table → ℕ → Members → Result ℕ ProjectFault
limited_at key place limit table = do
  d ← value_at key place table
  z ← integer_of key place d
  ok_or (below (limit + 1) z) (OutOfLimit key place)

-- from 1 to a limit
abbrev pub is_number : ℕ → ℕ → Bool
is_number limit n = nat_le 1 n && nat_le n limit

-- the items of the array at a key, of which there are from 1 to a limit
unfoldable pub items_at : Key → Table → ℕ → Members → Result (List Data) ProjectFault
items_at key place limit table = do
  d ← value_at key place table
  ds ← array_of key place d
  if is_number limit (length (list_of ds)) then Ok (list_of ds) else Err (OutOfLimit key place)

-- the integers that all of the values are
unfoldable pub integers_of : Key → Table → List Data → Result (List ℤ) ProjectFault
integers_of key place ds = each (λ _. integer_of key place) 0 ds

-- the numbers, if all of them fit 32 bits with a sign
unfoldable pub narrow : Key → Table → List ℤ → Result (List ℤ) ProjectFault
narrow key place zs = each (λ _. signed_of key place) 0 zs

-- the integers of the array at a key: first all are integers, and then all fit 32 bits with a sign
unfoldable pub integers_at : Key → Table → Members → Result (List ℤ) ProjectFault
integers_at key place table = do
  d ← value_at key place table
  ds ← array_of key place d
  zs ← integers_of key place (list_of ds)
  narrow key place zs

-- the texts that all of the values are
unfoldable pub texts_of : Key → Table → List Data → Result (List (List ℕ)) ProjectFault
texts_of key place ds = each (λ _. text_of key place) 0 ds

-- the texts of the array at a key
unfoldable pub texts_at : Key → Table → Members → Result (List (List ℕ)) ProjectFault
texts_at key place table = do
  d ← value_at key place table
  ds ← array_of key place d
  texts_of key place (list_of ds)
