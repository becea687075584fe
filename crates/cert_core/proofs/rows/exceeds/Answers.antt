use Rattle.cost_core.specs.StateCosts.{trellis_of}
use Rattle.cert_core.proofs.Steps.{exceeds_then, exceeds_else}
use Rattle.cert_core.proofs.rows.exceeds.Goals as goal

pub returns-then-reached-value : goal.returns-then-reached-value
returns-then-reached-value c =
    exceeds_then (trellis_of c.args.rows.now.window.now) c.args.rows.now.rows.bounded.some_state c.args.rows.now.level c.args.rows.now.previous.now c.args.rows.now.row.now c.args.state c.requires c.reached.result c.reached.ensures c.if-reached-value.true

pub returns-else-reached-value : goal.returns-else-reached-value
returns-else-reached-value c =
    exceeds_else (trellis_of c.args.rows.now.window.now) c.args.rows.now.rows.bounded.some_state c.args.rows.now.level c.args.rows.now.previous.now c.args.rows.now.row.now c.args.state c.requires c.reached.result c.reached-else-reached-value.result c.states.result
    c.reached.ensures c.if-reached-value.false c.states.ensures.value c.reached-else-reached-value.ensures
