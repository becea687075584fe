use Rattle.chunk_core.proofs.PlaceLaws.{spans_found}
use Rattle.chunk_core.proofs.laws.spans_found.Goals as goal

pub returns : goal.returns
returns c = spans_found
