-- What can be heard of errors: the residual.
use Rattle.std.specs.Prelude.{ℕ, ◌+◌, ◌-◌, ◌*◌, ◌/◌, ℤ, pos, negsuc, ◌-ℤ◌, ◌*ℤ◌, List, map, length, slice_index_or}
use Rattle.std.specs.List.{range_with_len}
use Rattle.dsd_bits.specs.Sums.{sum_below}

-- what a list has at a place, and 0 outside of it
abbrev pub at_place : List ℤ → ℤ → ℤ
at_place xs (pos i) = slice_index_or xs i (pos 0)
at_place xs (negsuc i) = pos 0

-- the residual at place n: the sum over k of taps[k] * errors[n + c - k], the middle tap being tap c
abbrev pub residual : List ℤ → List ℤ → ℕ → ℤ
residual taps errors n = sum_below (length taps) (λ k. slice_index_or taps k (pos 0) *ℤ at_place errors (pos (n + length taps / 2) -ℤ pos k))

-- the residual whose window begins at place p of some errors: the last tap meets the first of them
abbrev pub window_residual : List ℤ → List ℤ → ℕ → ℤ
window_residual taps errors p = sum_below (length taps) (λ k. slice_index_or taps k (pos 0) *ℤ slice_index_or errors (p + (length taps - (k + 1))) (pos 0))

-- the residuals whose windows begin at each step-th place, the first at place 0
abbrev pub window_residuals : List ℤ → List ℤ → ℕ → ℕ → List ℤ
window_residuals taps errors step number = map (λ i. window_residual taps errors (i * step)) (range_with_len 0 number)
