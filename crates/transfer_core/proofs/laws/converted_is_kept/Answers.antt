use Rattle.transfer_core.proofs.KeptLaws.{converted_is_kept}
use Rattle.transfer_core.proofs.laws.converted_is_kept.Goals as goal

pub returns : goal.returns
returns c = converted_is_kept c.written_is_read_again.ensures c.written_is_read_again-2.ensures
