-- Times that are read byte by byte.
use Rattle.std.proofs.Common.{◌≡◌, ◌≢◌, ℕ, ◌+◌, ◌*◌, ◌<◌, ◌≤◌, ◌^◌, Bool, true, false, List, [], ◌∷◌, Option, None, Some, refl, arith, inl, inr}
use Rattle.std.specs.Prelude.{◌&&◌, ◌==◌, IfSome, nat_lt, option_map, if◌then◌else◌}
use Rattle.std.specs.Char.{digit_value}
use Rattle.std.proofs.lemmas.Bool.{cases_lt, le-ltb, ne_eqb}
use Rattle.place_core.specs.Times.{fraction_from, in_range, is_field, rest_time, second, time_from}
use Rattle.place_core.specs.declared.place.Reading.{Reading}

-- a time, if there is one, is no less
abbrev pub IsLeast : ℕ → Option ℕ → Type 0
IsLeast low time = IfSome time (λ n. low ≤ n)

lower : (low less : ℕ) (time : Option ℕ) → less ≤ low → IsLeast low time → IsLeast less time
lower low less None below least = tt
lower low less (Some n) below least = omega (arith, below, least)

either : (low : ℕ) (test : Bool) (time other : Option ℕ) → IsLeast low time → IsLeast low other → IsLeast low (if test then time else other)
either low true time other one two = one
either low false time other one two = two

added : (base : ℕ) (part : Option ℕ) → IsLeast base (option_map (λ n. base + n) part)
added base None = tt
added base (Some n) = omega arith

pub later : (low more : ℕ) (time : Option ℕ) → IsLeast low time → IsLeast (low + more) (option_map (λ n. n + more) time)
later low more None least = tt
later low more (Some n) least = omega (arith, least)

pub too_great : (low : ℕ) (time : Option ℕ) → 2 ^ 64 ≤ low → IsLeast low time → in_range time ≡ None
too_great low None great least = refl
too_great low (Some n) great least = let all : 2 ^ 64 ≤ n = omega (arith, great, least) in rw (le-ltb n (2 ^ 64) all) refl

-- the time of a word is no less than what its fields count so far
pub least_time : (fields before number : ℕ) (has_digit : Bool) (rest : List ℕ) → IsLeast ((before + number) * second) (time_from fields before number has_digit rest)
least_time fields before number has_digit [] = either _ (is_field fields has_digit number) (Some ((before + number) * second)) None (omega arith) tt
least_time fields before number has_digit (byte ∷ rest) =
    let low = (before + number) * second in
    let colon = either low (is_field fields has_digit number && nat_lt fields 2) _ None (lower (((before + number) * 60 + 0) * second) low _ (omega arith) (least_time (fields + 1) ((before + number) * 60) 0 false rest)) tt in
    let point = either low (is_field fields has_digit number) _ None (added low (fraction_from false second rest)) tt in
    let digit = either low (nat_lt (digit_value byte) 10) _ None (lower ((before + (number * 10 + digit_value byte)) * second) low _ (omega arith) (least_time fields before (number * 10 + digit_value byte) true rest)) tt in
    either low (byte == 58) _ _ colon (either low (byte == 46) _ _ point digit)

pub not_below : (n : ℕ) → (n < 2 ^ 64 → ⊥) → 2 ^ 64 ≤ n
not_below n not = elim (cases_lt n (2 ^ 64)) [ inl below ↦ absurd (not below) | inr great ↦ great ]

-- a word has no time below 2^64 where its fields before the point count as much
pub fields_too_great : (reading : Reading) (word : List ℕ) → reading.is_after_point ≡ false → 2 ^ 64 ≤ (reading.before + reading.number) * 60 → in_range (rest_time reading word) ≡ None
fields_too_great reading word before great =
    let least = later _ reading.nanoseconds _ (least_time reading.fields reading.before reading.number reading.has_digit word) in
    rw before (too_great _ _ (omega (arith, great)) least)

-- nor where this field's number is so great with the next digit
pub number_too_great : (reading : Reading) (byte : ℕ) (rest : List ℕ) → reading.is_after_point ≡ false → byte ≢ 58 → byte ≢ 46 → 2 ^ 64 ≤ reading.number * 10 + digit_value byte → in_range (rest_time reading (byte ∷ rest)) ≡ None
number_too_great reading byte rest before no_colon no_point great =
    let read = reading.number * 10 + digit_value byte in
    let least = later _ reading.nanoseconds _ (either _ (nat_lt (digit_value byte) 10) _ None (least_time reading.fields reading.before read true rest) tt) in
    rw (before, ne_eqb byte 58 no_colon, ne_eqb byte 46 no_point) (too_great _ _ (omega (arith, great)) least)
