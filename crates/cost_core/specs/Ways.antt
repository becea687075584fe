-- The two ways into each state of a row, and the lesser of them.
use Rattle.std.specs.Prelude.{◌≡◌, ℕ, ◌/◌, ◌%◌, ◌<◌, ◌≤◌, ◌^◌, Bool, false, List, length, slice_index, slice_index_or, if◌then◌else◌}
use Rattle.std.specs.Int.{bit_at}
use Rattle.cost_core.specs.Rows.{seconds, least, lower, upper}

-- the sums of a row of an even number of states, and for each state of the next the step from the lower half and from the upper, all within the limits of sums
pub record AreWays (old lows highs : List ℕ) : Type 0 where
  pub even : length old % 2 ≡ 0
  pub lows_len : length lows ≡ length old
  pub highs_len : length highs ≡ length old
  pub old_small : (k : ℕ) → k < length old → slice_index old k ≤ 2 ^ 63
  pub lows_small : (k : ℕ) → k < length lows → slice_index lows k < 2 ^ 63
  pub highs_small : (k : ℕ) → k < length highs → slice_index highs k < 2 ^ 63

-- the next row: by state the lesser of the sums by its two ways, and at most 2^63
abbrev pub following : List ℕ → List ℕ → List ℕ → List ℕ
following old lows highs = least (lower old lows) (upper old highs)

-- by state whether the way from the upper half is less
abbrev pub are_upper : List ℕ → List ℕ → List ℕ → List Bool
are_upper old lows highs = seconds (lower old lows) (upper old highs)

-- the bytes have a bit for each state, which is 1 if the way from the upper half is less
abbrev pub HoldChoices : List ℕ → List ℕ → List ℕ → List ℕ → Type 0
HoldChoices old lows highs choices = (k : ℕ) → k < length old → bit_at (slice_index choices (k / 8)) (k % 8) ≡ (if slice_index_or (are_upper old lows highs) k false then 1 else 0)
