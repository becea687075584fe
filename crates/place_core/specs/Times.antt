-- The times that words name, in nanoseconds, and how far one is read.
use Rattle.std.specs.Prelude.{◌≡◌, ℕ, ◌+◌, ◌*◌, ◌/◌, ◌^◌, Bool, true, false, ◌&&◌, ◌||◌, ◌==◌, nat_lt, nat_le, if◌then◌else◌, List, [], ◌∷◌, Option, None, Some, MatchOption, option_map}
use Rattle.std.specs.Char.{digit_value}
use Rattle.place_core.specs.declared.place.Place.{Place}
use Rattle.place_core.specs.declared.place.Place.TheVariants.{Time}
use Rattle.place_core.specs.declared.place.Reading.{Reading}

-- how many nanoseconds a second has
abbrev pub second : ℕ
second = 1000000000

-- digits after a point as nanoseconds, where the first is worth a tenth of `worth`: None if there is none and none
-- came before, if a character is no digit, or if a digit is worth less than a nanosecond
abbrev pub fraction_from : Bool → ℕ → List ℕ → Option ℕ
fraction_from has_digit worth [] = if has_digit then Some 0 else None
fraction_from has_digit worth (byte ∷ rest) = if nat_lt (digit_value byte) 10 && nat_le 10 worth then option_map (λ more. digit_value byte * (worth / 10) + more) (fraction_from true (worth / 10) rest) else None

-- a field's number is below 60 if a field came before it
abbrev pub is_below : ℕ → ℕ → Bool
is_below fields number = fields == 0 || nat_lt number 60

-- a field is over: it has a digit, and its number is below 60 if a field came before it
abbrev pub is_field : ℕ → Bool → ℕ → Bool
is_field fields has_digit number = has_digit && is_below fields number

-- the time of a word of which some fields were read and a part of the next, from the rest of its bytes: the fields
-- count `before` in units of this one, whose number is `number` so far. A colon (58) begins the next field, of which
-- there are three at most, and a point (46) the digits after it. None if the word is no time
abbrev pub time_from : ℕ → ℕ → ℕ → Bool → List ℕ → Option ℕ
time_from fields before number has_digit [] = if is_field fields has_digit number then Some ((before + number) * second) else None
time_from fields before number has_digit (byte ∷ rest) =
    if byte == 58 then (if is_field fields has_digit number && nat_lt fields 2 then time_from (fields + 1) ((before + number) * 60) 0 false rest else None)
    else (if byte == 46 then (if is_field fields has_digit number then option_map (λ part. (before + number) * second + part) (fraction_from false second rest) else None)
    else (if nat_lt (digit_value byte) 10 then time_from fields before (number * 10 + digit_value byte) true rest else None))

-- the time that a word names as `SECONDS`, `MINUTES:SECONDS` or `HOURS:MINUTES:SECONDS`, seconds with or without a
-- point and digits after it; None if it names none
abbrev pub time_of : List ℕ → Option ℕ
time_of word = time_from 0 0 0 false word

-- a number below 2^64, and None for a greater one
abbrev pub in_range : Option ℕ → Option ℕ
in_range None = None
in_range (Some n) = if nat_lt n (2 ^ 64) then Some n else None

-- what is named is the time of the word, and nothing exactly if it has none or one of 2^64 nanoseconds or more
abbrev pub IsTimed : List ℕ → Option Place → Type 0
IsTimed word named = named ≡ option_map Time (in_range (time_of word))

-- the time of a word that is read in part, from the rest of its bytes
abbrev pub rest_time : Reading → List ℕ → Option ℕ
rest_time reading rest = option_map (λ time. time + reading.nanoseconds) (if reading.is_after_point
    then (if is_below reading.fields reading.number then option_map (λ part. (reading.before + reading.number) * second + part) (fraction_from reading.has_digit reading.worth rest) else None)
    else time_from reading.fields reading.before reading.number reading.has_digit rest)

-- one more byte is read: the word's time is the same, and if it is refused the word has none below 2^64
abbrev pub StepsBy : Reading → ℕ → Option Reading → Type 0
StepsBy reading byte next = MatchOption next ((rest : List ℕ) → in_range (rest_time reading (byte ∷ rest)) ≡ None) (λ after. (rest : List ℕ) → rest_time reading (byte ∷ rest) ≡ rest_time after rest)
