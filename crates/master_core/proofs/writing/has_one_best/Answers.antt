use Rattle.master_core.proofs.PartLaws.{one_best}
use Rattle.master_core.proofs.writing.has_one_best.Goals as goal

pub returns : goal.returns
returns c = one_best c.args.source.now.cut.now c.can_cut.ensures c.args.source.now.chosen.now c.requires.chosen
