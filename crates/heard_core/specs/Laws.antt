-- Residuals by windows of errors.
use Rattle.std.specs.Prelude.{◌≡◌, ℕ, ◌+◌, ◌*◌, ◌/◌, ◌%◌, ◌<◌, ◌≤◌, ℤ, pos, ◌-ℤ◌, List, map, length, slice_index_or}
use Rattle.std.specs.List.{range_with_len}
use Rattle.heard_core.specs.Residuals.{at_place, residual, window_residuals}

-- a list has the errors of a stretch of places, and 0 where a place has none: its first place is as many places before
-- a given one as the taps have before their middle tap
abbrev pub AreAround : List ℤ → List ℤ → ℕ → List ℤ → Type 0
AreAround taps errors first es = (j : ℕ) → j < length es → slice_index_or es j (pos 0) ≡ at_place errors (pos (first + j) -ℤ pos (length taps / 2))

-- the residuals at each step-th place from a place on
abbrev pub residuals_from : List ℤ → List ℤ → ℕ → ℕ → ℕ → List ℤ
residuals_from taps errors first step number = map (λ i. residual taps errors (first + i * step)) (range_with_len 0 number)

-- the residuals by the windows of such a list are those at places, as far as the windows are within it
abbrev pub WindowsAreResiduals : Type 0
WindowsAreResiduals = (taps errors es : List ℤ) (first step number : ℕ) → length taps % 2 ≡ 1 → AreAround taps errors first es → ((i : ℕ) → i < number → i * step + length taps ≤ length es) → window_residuals taps es step number ≡ residuals_from taps errors first step number
