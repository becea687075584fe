-- Numbers that are read digit by digit.
use Rattle.std.proofs.Common.{◌≡◌, ℕ, ◌+◌, ◌*◌, ◌<◌, ◌≤◌, ◌^◌, List, [], ◌∷◌, length, ap, ◌∙◌, arith}
use Rattle.std.specs.Char.{digit_value}
use Rattle.std.specs.Str.Parse.{AllDigits, digits_value, digits_value_after}

-- where some digits are left of all, the number of all is that of those after the number so far
pub record IsReadTo (all : List ℕ) (number : ℕ) (rest : List ℕ) : Type 0 where
  pub before : AllDigits 10 rest → AllDigits 10 all
  pub after : AllDigits 10 all → AllDigits 10 rest
  pub value : digits_value 10 all ≡ digits_value_after 10 number rest

-- more digits make no number smaller
not_less : (n : ℕ) (ds : List ℕ) → n ≤ digits_value_after 10 n ds
not_less n [] = omega arith
not_less n (c ∷ cs) = let more = not_less (n * 10 + digit_value c) cs in omega (arith, more)

-- so with one digit more it isn't greater than all
pub in_limit : (all rest after : List ℕ) (number byte : ℕ) → IsReadTo all number rest → rest ≡ byte ∷ after → digits_value 10 all < 2 ^ 64 → number * 10 + digit_value byte < 2 ^ 64
in_limit all rest after number byte read is less =
    let value : digits_value 10 all ≡ digits_value_after 10 (number * 10 + digit_value byte) after = read.value ∙ ap (digits_value_after 10 number) is in
    let more = not_less (number * 10 + digit_value byte) after in
    omega (arith, value, more, less)

-- where none are left it is the number of all
pub all_read : (all rest : List ℕ) (number : ℕ) → IsReadTo all number rest → length rest ≡ 0 → AllDigits 10 all × (digits_value 10 all ≡ number)
all_read all [] number read none = (read.before tt, read.value)
all_read all (x ∷ xs) number read none = absurd (omega arith)
