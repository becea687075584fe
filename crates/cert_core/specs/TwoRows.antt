-- Two rows of a window, one after the other, as they are held.
use Rattle.std.specs.Prelude.{ℕ, ◌+◌, ◌<◌, ◌≤◌, List, Bool, Option, MatchOption, length, slice_index}
use Rattle.cost_core.specs.Trellis.{Trellis, states}
use Rattle.cost_core.specs.StateCosts.{trellis_of}
use Rattle.cost_core.specs.declared.rows.Ways.{Ways}
use Rattle.cert_core.specs.Reasons.{Exceeds}
use Rattle.cert_core.specs.Within.{WithinBoth}
use Rattle.cert_core.specs.declared.two_rows.TwoRows.{TwoRows}

-- the states of their window
abbrev pub states_of : TwoRows → ℕ
states_of rows = states (trellis_of rows.window.now)

-- the bound that a state of the first sets with a step of this bit
abbrev pub reached_by : TwoRows → ℕ → Bool → ℕ
reached_by rows from bit = slice_index rows.previous.now from + (trellis_of rows.window.now).step rows.level from bit

-- the value of a state of the second exceeds a bound that the first sets
abbrev pub ExceedsAt : TwoRows → ℕ → Type 0
ExceedsAt rows state = Exceeds (trellis_of rows.window.now) rows.level rows.previous.now rows.row.now state

-- no value of a row exceeds what either way into its state sets
abbrev pub WithinWays : Ways → List ℕ → Type 0
WithinWays ways row = WithinBoth (length ways.old.now) ways.old.now ways.lows.now ways.highs.now row

-- no value of a row is below the stated cost, with the cost of ending there
abbrev pub AllReach : List ℕ → List ℕ → ℕ → Type 0
AllReach last tails stated = (q : ℕ) → q < length last → stated ≤ slice_index last q + slice_index tails q

-- the lowest state of the last row whose value is below the stated cost, with the cost of ending there
abbrev pub IsLowEnd : Trellis → List ℕ → ℕ → Option ℕ → Type 0
IsLowEnd t last stated found = MatchOption found
    ((q : ℕ) → q < states t → stated ≤ slice_index last q + t.tail q)
    (λ q. (q < states t) × (slice_index last q + t.tail q < stated) × ((k : ℕ) → k < q → stated ≤ slice_index last k + t.tail k))
