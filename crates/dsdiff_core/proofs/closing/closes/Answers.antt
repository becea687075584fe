use Rattle.std.proofs.Common.{is_some, ap, ◌∙◌}
use Rattle.dsdiff_core.proofs.ClosingLaws.{decides}
use Rattle.dsdiff_core.proofs.HeadLaws.{ends_at_head}
use Rattle.dsdiff_core.proofs.closing.closes.Goals as goal

pub stated_around-requires : goal.stated_around-requires
stated_around-requires c = (ends_at_head c.args.prefix.now c.requires.0 c.requires.1).0

pub returns : goal.returns
returns c = λ s e. decides c.args.prefix.now c.args.back.now s c.is_some.result e (c.is_some.ensures ∙ ap is_some c.in_ok-stated_around.ensures)
