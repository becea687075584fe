-- The places that words name.
use Rattle.std.specs.Prelude.{ℕ, ◌<◌, ◌^◌, List, Option, SomeIff}
use Rattle.std.specs.Str.Parse.{IsNumeral, digits_value}
use Rattle.place_core.specs.declared.place.Place.{Place}

-- some bytes are decimal digits alone, at least one, and their number is below 2^64
abbrev pub NamesNumber : List ℕ → Type 0
NamesNumber digits = IsNumeral 10 digits × (digits_value 10 digits < 2 ^ 64)

-- what is named is this kind of place with the number of the digits, and nothing exactly if they name no number
abbrev pub IsNumbered : (ℕ → Place) → List ℕ → Option Place → Type 0
IsNumbered kind digits named = SomeIff named (NamesNumber digits) (kind (digits_value 10 digits))
