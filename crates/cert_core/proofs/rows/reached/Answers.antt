use Rattle.std.proofs.Common.{arith}
use Rattle.cert_core.proofs.rows.reached.Goals as goal

pub overflow_add-result : goal.overflow_add-result
overflow_add-result c =
    omega (arith, c.args.rows.now.rows.limit c.args.from c.requires, c.args.rows.now.rows.bounded.step_in c.args.rows.now.level c.args.from c.args.bit c.args.rows.now.rows.inside c.requires, c.step_cost.ensures)
