use Rattle.null_core.proofs.DueLaws.{due_more}
use Rattle.null_core.proofs.judging.chunk_end.Goals as goal

pub returns-clause-due : goal.returns-clause-due
returns-clause-due c = due_more c.args.every c.args.first _ c.requires.due
