use Rattle.chunk_core.proofs.ReadingLaws.{one_list_is}
use Rattle.chunk_core.proofs.laws.one_list.Goals as goal

pub returns : goal.returns
returns c = one_list_is
