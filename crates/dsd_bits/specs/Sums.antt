-- What a stored bit counts, and sums of whole numbers without bounds.
use Rattle.std.specs.Prelude.{ℕ, zero, suc, ℤ, pos, negsuc, ◌+ℤ◌, Bool, true, false}

-- a stored 1 counts +1, a stored 0 counts -1
abbrev pub sign : Bool → ℤ
sign true = pos 1
sign false = negsuc 0

-- f 0 + f 1 + .. + f (m - 1)
abbrev pub sum_below : ℕ → (ℕ → ℤ) → ℤ
sum_below zero f = pos 0
sum_below (suc m) f = sum_below m f +ℤ f m
