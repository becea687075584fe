use Rattle.dsf_core.proofs.WrittenAgain.{written_again}
use Rattle.dsf_core.proofs.writing_laws.written_is_read_again.Goals as goal

pub returns : goal.returns
returns c = written_again c.laced_blocks_are_read_again.ensures
