use Rattle.heard_core.proofs.LaneLaws.{finished}
use Rattle.heard_core.proofs.products.finish.Goals as goal

pub returns : goal.returns
returns c = finished c.args.parts c.sum_plainly.result _ (record { sfits = c.sum_plainly.type_inv }) c.sum_plainly.ensures
