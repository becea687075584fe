-- The sound of stored bits, decoded by a low-pass whose middle tap is at the bit.
use Rattle.std.specs.Prelude.{ℕ, ◌+◌, ◌/◌, ℤ, Bool, List, map, length}
use Rattle.std.specs.List.{range_with_len}
use Rattle.fir_core.specs.Convolution.{conv}

-- the sound at bit n: the sum over k of taps[k] * signal(n + c - k), the middle tap being tap c
abbrev pub decoded : List ℤ → List Bool → ℕ → ℤ
decoded taps bits n = conv taps bits (n + length taps / 2)

-- the sound at some bits, from the first on
abbrev pub decoded_from : List ℤ → List Bool → ℕ → ℕ → List ℤ
decoded_from taps bits first number = map (decoded taps bits) (range_with_len first number)
