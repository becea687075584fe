use Rattle.dop_core.proofs.RoundTrip.{written_again}
use Rattle.dop_core.proofs.laws.written_is_read_again.Goals as goal

pub returns : goal.returns
returns c = written_again
