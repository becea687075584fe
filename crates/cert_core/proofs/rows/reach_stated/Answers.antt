use Rattle.std.proofs.Common.{replicate, refl, arith}
use Rattle.std.proofs.lemmas.List.{get_or-replicate}
use Rattle.cost_core.proofs.Lanes.{sums_fit}
use Rattle.cert_core.proofs.Marks.{is_zero}
use Rattle.cert_core.proofs.Within.{none_above}
use Rattle.cert_core.proofs.rows.reach_stated.Goals as goal

pub overflow_add-ends : goal.overflow_add-ends
overflow_add-ends c = sums_fit c.args.last.now c.args.tails.now c.requires.last c.requires.tails

pub returns : goal.returns
returns c = λ h k lt.
    omega (arith, none_above (replicate 8 c.args.stated) c.args.last.now c.args.tails.now refl c.told-last c.told-tails (is_zero _ h) k lt, get_or-replicate 8 k c.args.stated 0 lt)
