-- How far a channel of a master is from the mix.
use Rattle.std.specs.Prelude.{ℕ, ◌*◌, ◌^◌, ◌≤◌, ℤ, pos, ◌+ℤ◌, ◌-ℤ◌, ◌*ℤ◌, unsigned_abs, Bool, false, List, length, map, slice_index_or}
use Rattle.std.specs.Int.{int_div_euclid}
use Rattle.std.specs.List.{range_with_len}
use Rattle.dsd_bits.specs.Sums.{sign}
use Rattle.heard_core.specs.Residuals.{residual}
use Rattle.null_core.specs.Parts.{AskedContent, mix_at}

-- what a bit counts at full scale
abbrev pub wanted : ℕ → Bool → ℤ
wanted unit bit = sign bit *ℤ pos (unit * 2 ^ 24)

-- a difference in units of 2 ^ 23, to the nearest whole number, halves upwards
abbrev pub in_units : ℤ → ℤ
in_units difference = int_div_euclid (difference +ℤ pos (2 ^ 22)) (pos (2 ^ 23))

-- the error of a bit where this is the mix: what the bit counts less the mix
abbrev pub error_of : ℕ → Bool → ℤ → ℤ
error_of unit bit mix = in_units (wanted unit bit -ℤ mix)

-- the error at a place of the master
abbrev pub error_at : AskedContent → List Bool → ℕ → ℤ
error_at a bits m = error_of a.unit (slice_index_or bits m false) (mix_at a.parts m)

-- the errors at some places, from the first on
abbrev pub errors_from : AskedContent → List Bool → ℕ → ℕ → List ℤ
errors_from a bits first number = map (error_at a bits) (range_with_len first number)

-- the errors at all places of the master
abbrev pub errors : AskedContent → List Bool → List ℤ
errors a bits = errors_from a bits 0 (length bits)

-- how large the residual at a place is
abbrev pub residual_size : AskedContent → List Bool → ℕ → ℕ
residual_size a bits n = unsigned_abs (residual a.audible (errors a bits) n)

-- the error at a place is too large to be judged
abbrev pub IsLoud : AskedContent → List Bool → ℕ → Type 0
IsLoud a bits m = 2 ^ 31 ≤ unsigned_abs (error_at a bits m)
