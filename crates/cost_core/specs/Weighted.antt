-- Weighted sums of bits.
use Rattle.std.specs.Prelude.{◌≡◌, ℕ, ◌+◌, ◌-◌, ◌*◌, ◌/◌, ◌%◌, ◌^◌, ◌<◌, ◌==◌, Bool, false, List, length, map, slice_index, slice_index_or, ℤ, pos, ◌-ℤ◌, ◌*ℤ◌, unsigned_abs}
use Rattle.std.specs.List.{range_with_len}
use Rattle.dsd_bits.specs.Sums.{sign, sum_below}

-- the sum over k of w[k] * sign(bit k)
abbrev pub weighed : List ℤ → (ℕ → Bool) → ℤ
weighed weights bit = sum_below (length weights) (λ k. slice_index_or weights k (pos 0) *ℤ sign (bit k))

-- the weighted sum at place n of some bits: the sum over k of w[k] * sign(z[n - k])
unfoldable pub weighted : List ℤ → List Bool → ℕ → ℤ
weighted weights z n = weighed weights (λ k. slice_index_or z (n - k) false)

-- the weighted sum of the binary digits of a number, the lowest first
unfoldable pub weighted_code : List ℤ → ℕ → ℤ
weighted_code weights code = weighed weights (λ k. code / 2 ^ k % 2 == 1)

-- the square of a whole number
unfoldable pub square : ℤ → ℕ
square z = unsigned_abs z * unsigned_abs z

-- the weighted sums of all numbers with as many binary digits as there are weights, each times n + 1
abbrev pub scaled_table : List ℤ → ℕ → List ℤ
scaled_table weights levels = map (λ code. pos (levels + 1) *ℤ weighted_code weights code) (range_with_len 0 (2 ^ length weights))

-- the squares of the differences between some sums and another one
abbrev pub AreSquares : List ℤ → ℤ → List ℕ → Type 0
AreSquares sums other squares = (k : ℕ) → k < length sums → slice_index squares k ≡ square (slice_index_or sums k (pos 0) -ℤ other)

-- to number k of a row was added the square of the difference between another sum and that at the place
-- first + k * 2 ^ shift of some sums, past whose last one their first one follows
abbrev pub AddsSquares : List ℤ → ℕ → ℕ → ℤ → List ℕ → List ℕ → Type 0
AddsSquares sums first shift other old new = (k : ℕ) → k < length old →
    slice_index new k ≡ slice_index old k + square (slice_index_or sums ((k * 2 ^ shift + first) % length sums) (pos 0) -ℤ other)
