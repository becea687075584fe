use Rattle.null_commands.proofs.SourceLaws.{mixes}
use Rattle.null_commands.proofs.sources.mixed_of.Goals as goal

pub returns-clause-mixed : goal.returns-clause-mixed
returns-clause-mixed c = λ text files are. mixes text files c.args.sources are c.in_ok-takes.field-0 c.in_ok-takes.was c.in_ok-of.field-0 c.in_ok-of.ensures.made c.in_ok-of.ensures.fit
