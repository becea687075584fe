-- The decisions of a search: for each level and state which of the two states before it the way back takes, a bit each (Viterbi's algorithm). Only the search's private functions cite this.
use Rattle.std.specs.Prelude.{◌≡◌, ℕ, ◌+◌, ◌*◌, ◌/◌, ◌%◌, ◌<◌, nat_lt, Bool, List, length, slice_index}
use Rattle.std.specs.Int.{bit_at, div_ceil}
use Rattle.cost_core.specs.Bridges.{Bridging}
use Rattle.cost_core.specs.StateCosts.{trellis_of}
use Rattle.cost_core.specs.Trellis.{Trellis, states, digit}
use Rattle.trellis_core.specs.Best.{best, by_0, by_1}

-- whether the way back from a state of the next level takes the state whose oldest bit is 1
abbrev pub decision : Trellis → ℕ → ℕ → Bool
decision t level q = nat_lt (by_1 t level (best t level) q) (by_0 t level (best t level) q)

-- the number of bytes that the decisions of a level take, for a number of states
abbrev pub decision_bytes : ℕ → ℕ
decision_bytes count = div_ceil count 8

-- bytes that hold the decisions of a level: state q's is the bit q % 8 of the byte q / 8
abbrev pub AreDecisions : Trellis → ℕ → List ℕ → Type 0
AreDecisions t level bytes = (q : ℕ) → q < states t → bit_at (slice_index bytes (q / 8)) (q % 8) ≡ digit (decision t level q)

-- bytes that hold the decisions of n levels, one level after another
pub record AreAllDecisions (t : Trellis) (levels : ℕ) (bytes : List ℕ) : Type 0 where
  pub long : length bytes ≡ levels * decision_bytes (states t)
  pub each : (level q : ℕ) → level < levels → q < states t → bit_at (slice_index bytes (level * decision_bytes (states t) + q / 8)) (q % 8) ≡ digit (decision t level q)

-- bytes that hold the decisions of all levels of a bridge
abbrev pub DecideAll : Bridging → List ℕ → Type 0
DecideAll d bytes = AreAllDecisions (trellis_of d) (trellis_of d).levels bytes
