use Rattle.form_core.proofs.WrittenLaws.{written_is_read}
use Rattle.form_core.proofs.laws.written_is_read.Goals as goal

pub returns : goal.returns
returns c = written_is_read c.written_is_read_again.ensures c.written_is_read_again-2.ensures
