use Rattle.null_core.proofs.LikeLaws.{judged_alike}
use Rattle.null_core.proofs.laws.alike_are_judged_alike.Goals as goal

pub returns : goal.returns
returns c = judged_alike
