use Rattle.trellis_core.proofs.LeastSums.{best_rows_are_valid}
use Rattle.trellis_core.proofs.laws.best_rows_are_valid.Goals as goal

pub returns : goal.returns
returns c = best_rows_are_valid
