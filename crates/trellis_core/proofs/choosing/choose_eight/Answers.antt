use Rattle.std.proofs.Common.{arith}
use Rattle.cost_core.proofs.Lanes.{row_is, choices_are}
use Rattle.trellis_core.proofs.choosing.choose_eight.Goals as goal

pub overflow_cast-result : goal.overflow_cast-result
overflow_cast-result c =
    let are = choices_are c.args.first.now c.args.second.now c.told-first c.told-second in
    record { fits = omega (arith, are.0, are.1) }

pub returns-clause-row : goal.returns-clause-row
returns-clause-row c = row_is c.args.first.now c.args.second.now c.told-first c.told-second

pub returns-clause-choices : goal.returns-clause-choices
returns-clause-choices c = (choices_are c.args.first.now c.args.second.now c.told-first c.told-second).0
