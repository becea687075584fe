-- The memory of a pass over the levels. Only the search's private functions cite this.
use Rattle.std.specs.Prelude.{◌≡◌, ℕ, ◌*◌, length}
use Rattle.trellis_core.specs.Decisions.{decision_bytes}
use Rattle.trellis_core.specs.declared.rows.PassRoom.{PassRoom}

-- memory for the steps of a level, for two rows and for the decisions of a level, for a number of states
pub record HasBuffers (count : ℕ) (room : PassRoom) : Type 0 where
  pub steps : length room.steps.items ≡ 2 * count
  pub row : length room.row.items ≡ count
  pub totals : length room.totals.items ≡ count
  pub decided : length room.decided.items ≡ decision_bytes count
