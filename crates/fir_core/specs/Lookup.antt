-- What a byte adds to each window that contains it, laid out as rows: one for each place in a step and each byte.
-- Windows begin at each step-th byte.
use Rattle.std.specs.Prelude.{◌≡◌, ℕ, zero, suc, ◌+◌, ◌-◌, ◌*◌, ◌/◌, ◌%◌, ◌^◌, ◌<◌, ◌≤◌, ℤ, pos, unsigned_abs, List, map, take, drop, length, slice_index, slice_index_or}
use Rattle.std.specs.List.{range_with_len, sum_by}
use Rattle.fir_core.specs.Signed.{dot, bits_of_byte}
use Rattle.fir_core.specs.Windows.{window_sum}

-- the sum, for a byte, of the last n groups of eight taps; 0 for no groups
abbrev pub last_group : List ℤ → ℕ → ℕ → ℤ
last_group taps zero byte = pos 0
last_group taps (suc group) byte = dot (take 8 (drop (8 * group) taps)) (bits_of_byte byte)

-- how many groups of its window a byte ends, by its place in a step and a column of its row: the window in column
-- span - 1 begins in the byte's own step, each column before has the window a step earlier, and those after have none
abbrev pub groups_at : ℕ → ℕ → ℕ → ℕ → ℕ
groups_at step span place column = (span - column) * step + (place + 1) - step

-- an entry of the rows: each has span + 8 columns, and each place in a step 256 rows; the first four entries come
-- before them
abbrev pub row_entry : List ℤ → ℕ → ℕ → ℕ → ℤ
row_entry taps step span i = last_group taps (groups_at step span ((i - 4) / (span + 8) / 256) ((i - 4) % (span + 8))) ((i - 4) / (span + 8) % 256)

-- the lookup of all places and bytes
abbrev pub lookup : List ℤ → ℕ → ℕ → List ℤ
lookup taps step span = map (row_entry taps step span) (range_with_len 0 (256 * step * (span + 8) + 4))

-- byte p is at this place in the step with which the window of this number begins
pub record IsSpot (step p window place : ℕ) : Type 0 where
  pub at : p ≡ window * step + place
  pub inside : place < step

-- the place in the rows of what a byte at a spot adds to window j
abbrev pub row_place : ℕ → ℕ → ℕ → ℕ → ℕ → ℕ
row_place span window place byte j = 4 + (256 * place + byte) * (span + 8) + (j + span - (window + 1))

-- the sum of window j over the bytes before byte p
unfoldable pub sum_before : List ℤ → List ℕ → ℕ → ℕ → ℕ → ℤ
sum_before taps bytes step p j = window_sum (take (8 * (p - j * step)) taps) bytes (j * step)

-- what byte p adds to window j
unfoldable pub entry_of : List ℤ → List ℕ → ℕ → ℕ → ℕ → ℤ
entry_of taps bytes step p j = last_group taps (p + 1 - j * step) (slice_index bytes p)

-- the rows have at a place what byte p adds to n windows from window j on
pub record AreRowEntries (taps : List ℤ) (bytes : List ℕ) (step : ℕ) (entries : List ℤ) (p j number at : ℕ) : Type 0 where
  pub within : at + number ≤ length entries
  pub each : (k : ℕ) → k < number → slice_index_or entries (at + k) (pos 0) ≡ entry_of taps bytes step p (j + k)

-- the rows have at these places what each of eight bytes from p on adds
pub record IsBlock (taps : List ℤ) (bytes : List ℕ) (step : ℕ) (entries : List ℤ) (p j number : ℕ) (at : List ℕ) : Type 0 where
  pub within : p + 8 ≤ length bytes
  pub each : (b : ℕ) → b < 8 → AreRowEntries taps bytes step entries (p + b) j number (slice_index at b)

-- taps in whole groups of eight, and the lookup of all places and bytes
pub record IsLaid (taps entries : List ℤ) (step span : ℕ) : Type 0 where
  pub whole : length taps % 8 ≡ 0
  pub some : 8 ≤ length taps
  pub few : length taps ≤ 4104
  pub small : sum_by unsigned_abs taps ≤ 2 ^ 30
  pub least : 1 ≤ step
  pub most : step ≤ 128
  pub wide : length taps / 8 ≤ span * step
  pub loose : 0 < step % 8 → length taps / 8 + 7 ≤ span * step
  pub narrow : span ≤ 1024
  pub eights : span % 8 ≡ 0
  pub laid : entries ≡ lookup taps step span
