-- Levels in hundredths of a decibel to full scale.
use Rattle.std.specs.Prelude.{ℕ, ◌+◌, ◌*◌, ◌/◌, ◌%◌, ◌^◌, ◌≤◌, ℤ, pos, negsuc, ◌-ℤ◌, unsigned_abs, List, [], ◌++◌, codes}
use Rattle.std.specs.Fmt.{decimal}

-- 20 * log10(value / full) is at most k / 100 where value ^ 2000 is at most full ^ 2000 * 10 ^ k
unfoldable pub strength : ℕ → ℕ
strength x = x ^ 2000

-- no value of 64 bits is as many hundredths of a decibel above another or below it
unfoldable pub limit : ℕ
limit = 40000

-- a number is at most another times a power of ten
abbrev pub IsAtMostScaled : ℕ → ℕ → ℤ → Type 0
IsAtMostScaled x y (pos n) = x ≤ y * 10 ^ n
IsAtMostScaled x y (negsuc n) = x * 10 ^ (n + 1) ≤ y

-- a value is at most some hundredths of a decibel to full scale
abbrev pub IsAtMost : ℕ → ℕ → ℤ → Type 0
IsAtMost value full k = IsAtMostScaled (strength value) (strength full) k

-- the level of a value in hundredths of a decibel to full scale, rounded towards louder
pub record IsLevel (value full : ℕ) (k : ℤ) : Type 0 where
  pub enough : IsAtMost value full k
  pub least : IsAtMost value full (k -ℤ pos 1) → ⊥

-- the sign of a level
abbrev pub sign_text : ℤ → List ℕ
sign_text (pos n) = []
sign_text (negsuc n) = codes "-"

-- a level in decibels, with two decimals
abbrev pub level_text : ℤ → List ℕ
level_text k = let size = unsigned_abs k in sign_text k ++ decimal (size / 100) ++ codes "." ++ decimal (size / 10 % 10) ++ decimal (size % 10)
