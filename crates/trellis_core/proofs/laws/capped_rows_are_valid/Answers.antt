use Rattle.trellis_core.proofs.CapLaws.{capped_rows_are_valid}
use Rattle.trellis_core.proofs.laws.capped_rows_are_valid.Goals as goal

pub returns : goal.returns
returns c = capped_rows_are_valid
