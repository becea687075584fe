use Rattle.null_commands.proofs.SourceLaws.{text_refused}
use Rattle.null_commands.proofs.sources.mix_of.Goals as goal

pub returns-in-Err-clause-fault : goal.returns-in-Err-clause-fault
returns-in-Err-clause-fault c = text_refused c.read_as_said.ensures c.args.text.now c.in-Err.fault c.from.result c.fault_of_null.result c.from.ensures c.fault_of_null.ensures c.in-Err.ensures.exact
