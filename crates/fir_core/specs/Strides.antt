-- The sums of windows, strided by eight: steps are eight apart, and what each adds to eight neighbouring windows is in
-- neighbouring columns of its rows.
use Rattle.std.specs.Prelude.{◌≡◌, ℕ, ◌+◌, ◌-◌, ◌*◌, ◌/◌, ◌%◌, ◌^◌, ◌<◌, ◌≤◌, [], ℤ, pos, ◌+ℤ◌, unsigned_abs, List, length, slice_index, slice_index_or}
use Rattle.std.specs.Int.{int_wrap, w32}
use Rattle.dsd_bits.specs.Sums.{sum_below}
use Rattle.fir_core.specs.Lookup.{groups_at, last_group}
use Rattle.fir_core.specs.Windows.{window_sum}
use Rattle.fir_core.specs.declared.lookup.Lookup.{Lookup}

-- what the bytes of step u add, by what is in a column of their rows
unfoldable pub step_at : List ℤ → List ℕ → ℕ → ℕ → ℕ → ℕ → ℤ
step_at taps bytes step span u column = sum_below step (λ place. last_group taps (groups_at step span place column) (slice_index bytes (u * step + place)))

-- the sum of n steps, each eight after the one before and the first of them step s, over columns eight apart, of which
-- the last step has the first
unfoldable pub steps_sum : List ℤ → List ℕ → ℕ → ℕ → ℕ → ℕ → ℕ → ℤ
steps_sum taps bytes step span s number column = sum_below number (λ t. step_at taps bytes step span (8 * t + s) (column + 8 * number - 8 * (t + 1)))

-- what every eighth step from step s on adds to the window seven before a place, within n groups of eight steps
abbrev pub stride_sum : List ℤ → List ℕ → ℕ → ℕ → ℕ → ℕ → ℕ → ℤ
stride_sum taps bytes step span eights s i = steps_sum taps bytes step span s ((i - s) / 8 + eights) (span - 8 * eights + (i - s) % 8)

-- n vectors of eight numbers, which are the values of f wrapped to 32 bits
pub record AreNear (number : ℕ) (f : ℕ → ℤ) (near : List (List ℤ)) : Type 0 where
  pub long : length near ≡ number
  pub eight : (k : ℕ) → k < number → length (slice_index_or near k []) ≡ 8
  pub each : (k l : ℕ) → k < number → l < 8 → slice_index_or (slice_index_or near k []) l (pos 0) ≡ int_wrap w32 (f (8 * k + l))

-- what the bytes of step u add by the last columns of n groups of eight
abbrev pub near_step : Lookup → List ℕ → ℕ → ℕ → ℕ → ℤ
near_step lookup bytes eights u c = step_at lookup.taps.now bytes lookup.step lookup.span u (lookup.span - 8 * eights + c)

-- the values of f are added to n vectors, whatever they hold
abbrev pub Adds : ℕ → (ℕ → ℤ) → List (List ℤ) → List (List ℤ) → Type 0
Adds number f old new = (g : ℕ → ℤ) → AreNear number g old → AreNear number (λ c. g c +ℤ f c) new

-- the vectors of the values eight further on; there are none after their last
abbrev pub Moves : ℕ → List (List ℤ) → List (List ℤ) → Type 0
Moves number old new = (f : ℕ → ℤ) → AreNear number f old → ((c : ℕ) → 8 * number ≤ c → f c ≡ pos 0) → AreNear number (λ c. f (c + 8)) new

-- the last columns of the row of a byte at a place in its step
pub record AreColumns (lookup : Lookup) (place byte number : ℕ) (columns : List ℤ) : Type 0 where
  pub len : length columns ≡ number
  pub each : (c : ℕ) → c < number → slice_index_or columns c (pos 0) ≡ last_group lookup.taps.now (groups_at lookup.step lookup.span place (lookup.span - number + c)) byte
  pub small : (c : ℕ) → c < number → unsigned_abs (slice_index_or columns c (pos 0)) ≤ 2 ^ 30

-- eight numbers are added to the sums from a place on, wrapped to 32 bits
pub record IsAddedAt (near : List ℤ) (at : ℕ) (old new : List ℤ) : Type 0 where
  pub len : length new ≡ length old
  pub added : (l : ℕ) → l < 8 → (x y : ℤ) → slice_index_or near l (pos 0) ≡ int_wrap w32 y → slice_index_or old (at + l) (pos 0) ≡ int_wrap w32 x → slice_index_or new (at + l) (pos 0) ≡ int_wrap w32 (x +ℤ y)
  pub before : (i : ℕ) → i < at → slice_index_or new i (pos 0) ≡ slice_index_or old i (pos 0)
  pub after : (i : ℕ) → at + 8 ≤ i → slice_index_or new i (pos 0) ≡ slice_index_or old i (pos 0)

-- what every eighth step from step s on adds is added to the sums from place s on, wrapped to 32 bits, but not after
-- the last eight of whole groups
pub record AreStrided (lookup : Lookup) (bytes : List ℕ) (eights s : ℕ) (old new : List ℤ) : Type 0 where
  pub len : length new ≡ length old
  pub added : (i : ℕ) → s ≤ i → i + 8 < s + 8 * (length old / 8) → (x : ℤ) → slice_index_or old i (pos 0) ≡ int_wrap w32 x → slice_index_or new i (pos 0) ≡ int_wrap w32 (x +ℤ stride_sum lookup.taps.now bytes lookup.step lookup.span eights s i)

-- the sum of each window is seven places on, except for the last fifteen of whole groups
abbrev pub AreSevenOn : Lookup → List ℕ → List ℤ → Type 0
AreSevenOn lookup bytes sums = (j : ℕ) → j + 15 < 8 * (length sums / 8) → slice_index_or sums (j + 7) (pos 0) ≡ window_sum lookup.taps.now bytes (j * lookup.step)
