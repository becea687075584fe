use Rattle.std.proofs.Common.{◌∙◌}
use Rattle.null_core.proofs.BlockLaws.{whole_range}
use Rattle.null_core.proofs.channel.settled.Goals as goal

pub returns-in-Some : goal.returns-in-Some
returns-in-Some c = c.in-Some.ensures ∙ whole_range c.args.bits 65536 c.requires.full
