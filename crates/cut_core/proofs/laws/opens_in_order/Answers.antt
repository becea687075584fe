use Rattle.cut_core.proofs.OpeningLaws as laws
use Rattle.cut_core.proofs.laws.opens_in_order.Goals as goal

pub returns : goal.returns
returns c = laws.opens_in_order
