use Rattle.chunk_core.proofs.PlaceLaws.{spans_again}
use Rattle.chunk_core.proofs.laws.spans_again.Goals as goal

pub returns : goal.returns
returns c = spans_again
