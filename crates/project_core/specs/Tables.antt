-- What TOML tables have, as the library `toml` reads them.
use Rattle.std.specs.Prelude.{◌≡◌, ℕ, ℤ, pos, List, [], ◌∷◌, map, Option, Some, None, Bool, true, ◌&&◌, IsSome, IsTrue, if◌then◌else◌}
use Rattle.std.specs.List.{list_any}
use Rattle.std.specs.Str.{bytes_eq, is_utf8}
use Rattle.toml.specs.Data.{Data, string, integer, array, Items, no_items, item, Members, no_members, member, get_member}
use Rattle.toml.specs.Parse.{parse_document}
use Rattle.toml.specs.View.{items_of}
use Rattle.project_core.specs.declared.key.Key.{Key}
use Rattle.project_core.specs.Keys.{key_name}

-- the table that the bytes are in TOML
abbrev pub table_in : List ℕ → Option Members
table_in bytes = if is_utf8 bytes then parse_document bytes else None

-- the name is that of one of the keys
unfoldable pub is_among : List Key → List ℕ → Bool
is_among keys name = list_any (λ k. bytes_eq (key_name k) name) keys

-- each name that a look-up finds in the table is one of these keys
abbrev pub FindsOnly : List Key → Members → Type 0
FindsOnly keys t = (name : List ℕ) → IsSome (get_member name t) → IsTrue (is_among keys name)

-- each member of the table is at one of these keys
abbrev pub has_only : List Key → Members → Bool
has_only keys no_members = true
has_only keys (member name d rest) = is_among keys name && has_only keys rest

-- the table has this value at the key
abbrev pub Has : Members → Key → Data → Type 0
Has t key d = get_member (key_name key) t ≡ Some d

-- the table has nothing at the key
abbrev pub Lacks : Members → Key → Type 0
Lacks t key = get_member (key_name key) t ≡ None

-- a number with no sign as a value
abbrev pub number : ℕ → Data
number n = integer (pos n)

-- numbers as a value
abbrev pub numbers : List ℤ → Data
numbers zs = array (items_of (map integer zs))

-- texts as a value
abbrev pub texts : List (List ℕ) → Data
texts ts = array (items_of (map string ts))

-- the items of an array as a list
abbrev pub list_of : Items → List Data
list_of no_items = []
list_of (item d ds) = d ∷ list_of ds
