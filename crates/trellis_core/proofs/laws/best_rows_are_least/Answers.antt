use Rattle.trellis_core.proofs.LeastRows.{best_rows_are_least}
use Rattle.trellis_core.proofs.laws.best_rows_are_least.Goals as goal

pub returns : goal.returns
returns c = best_rows_are_least
