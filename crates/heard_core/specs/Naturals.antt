-- Natural numbers of any size, in limbs of 64 bits.
use Rattle.std.specs.Prelude.{ℕ, ◌+◌, ◌*◌, ◌^◌, List, [], ◌∷◌}

-- how many values a limb has
unfoldable pub base : ℕ
base = 2 ^ 64

-- the number whose limbs these are, the lowest first
abbrev pub natural : List ℕ → ℕ
natural [] = 0
natural (x ∷ xs) = x + base * natural xs
