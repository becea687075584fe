use Rattle.transfer_commands.proofs.StreamLaws.{kept_excerpted}
use Rattle.transfer_commands.proofs.excerpts.excerpts_by.Goals as goal

pub returns : goal.returns
returns c = kept_excerpted c.args.kept c.has_shape.ensures
