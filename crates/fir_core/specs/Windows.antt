-- The taps of a window of whole bytes, and the sums of windows that follow one another.
use Rattle.std.specs.Prelude.{ℕ, ◌+◌, ◌-◌, ◌*◌, ◌%◌, ◌<◌, ◌≤◌, ℤ, pos, List, ◌++◌, map, drop, length, replicate, reverse}
use Rattle.std.specs.List.{range_with_len}
use Rattle.std.specs.Int.{div_ceil}
use Rattle.fir_core.specs.Signed.{dot, bits_of}

-- the number of bits after place n in its byte
abbrev pub bits_following : ℕ → ℕ
bits_following n = 7 - n % 8

-- the number of bytes of the window of n taps that ends with the byte of a place
abbrev pub window_size : ℕ → ℕ → ℕ
window_size number n = div_ceil (number + bits_following n) 8

-- the number of bits of the window before its first tap
abbrev pub bits_preceding : ℕ → ℕ → ℕ
bits_preceding number n = 8 * window_size number n - (number + bits_following n)

-- the taps in the order of the window's bits, with taps of 0 for the bits before and after them
abbrev pub aligned : List ℤ → ℕ → List ℤ
aligned h n = replicate (bits_preceding (length h) n) (pos 0) ++ reverse h ++ replicate (bits_following n) (pos 0)

-- the sum of the taps over the window that begins at a byte
abbrev pub window_sum : List ℤ → List ℕ → ℕ → ℤ
window_sum taps bytes at = dot taps (bits_of (drop at bytes))

-- the sums of n windows, each some bytes after the one before
abbrev pub window_sums : List ℤ → List ℕ → ℕ → ℕ → List ℤ
window_sums taps bytes step number = map (λ i. window_sum taps bytes (i * step)) (range_with_len 0 number)

-- there are some windows, and each of them lies within the bytes
pub record AreWithin (size step number : ℕ) (bytes : List ℕ) : Type 0 where
  pub some : 1 ≤ number
  pub each : (j : ℕ) → j < number → j * step + size ≤ length bytes
