use Rattle.fir_core.proofs.StrideLaws.{added_at}
use Rattle.fir_core.proofs.strides.add_eight.Goals as goal

pub returns : goal.returns
returns c = added_at c.args.near c.args.sums.now c.args.at c.requires.eight c.requires.inside
