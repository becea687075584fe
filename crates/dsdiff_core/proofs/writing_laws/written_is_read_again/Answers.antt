use Rattle.dsdiff_core.proofs.WrittenAgain.{written_again}
use Rattle.dsdiff_core.proofs.writing_laws.written_is_read_again.Goals as goal

pub returns : goal.returns
returns c = written_again c.spelled_again.ensures c.laced_channels_are_read_again.ensures
