use Rattle.std.proofs.Common.{◌∙◌, cond, false, get_or, length, arith}
use Rattle.cost_core.specs.StateCosts.{trellis_of}
use Rattle.cost_core.specs.Rows.{seconds, least, lower, upper}
use Rattle.trellis_core.proofs.Levels.{ways, next_is, decided, row_long}
use Rattle.cost_core.proofs.StepRows.{states_whole}
use Rattle.trellis_core.proofs.rows.next_row.Goals as goal

pub choose-requires-clause-many : goal.choose-requires-clause-many
choose-requires-clause-many c = λ many.
    let long = row_long c.args.window.now c.args.level c.states.result c.args.row.now c.step_costs.new.row c.states.ensures.bounded c.requires.level c.states.ensures.value c.requires.row c.step_costs.ensures in
    states_whole (trellis_of c.args.window.now).width (length c.args.row.now) (long ∙ c.states.ensures.value) many

pub choose-requires-clause-row_len : goal.choose-requires-clause-row_len
choose-requires-clause-row_len c = omega (arith, row_long c.args.window.now c.args.level c.states.result c.args.row.now c.step_costs.new.row c.states.ensures.bounded c.requires.level c.states.ensures.value c.requires.row c.step_costs.ensures, c.states.ensures.value, c.requires.following)

pub choose-requires-clause-choices_len : goal.choose-requires-clause-choices_len
choose-requires-clause-choices_len c = omega (arith, row_long c.args.window.now c.args.level c.states.result c.args.row.now c.step_costs.new.row c.states.ensures.bounded c.requires.level c.states.ensures.value c.requires.row c.step_costs.ensures, c.states.ensures.value, c.requires.decisions)

pub invariant_of-ways : goal.invariant_of-ways
invariant_of-ways c = record { ways = ways c.args.window.now c.args.level c.states.result c.args.row.now c.step_costs.new.row c.states.ensures.bounded c.requires.level c.states.ensures.value c.requires.row c.step_costs.ensures _ _ c.split_at.ensures.front c.split_at.ensures.back }

pub returns-clause-following : goal.returns-clause-following
returns-clause-following c =
    c.choose.ensures.row ∙ (λ z. least (lower c.args.row.now (c.split_at.ensures.front z)) (upper c.args.row.now (c.split_at.ensures.back z)))
    ∙ next_is c.args.window.now c.args.level c.states.result c.args.row.now c.step_costs.new.row c.states.ensures.bounded c.requires.level c.states.ensures.value c.requires.row c.step_costs.ensures

pub returns-clause-decisions : goal.returns-clause-decisions
returns-clause-decisions c = λ q h.
    let long = row_long c.args.window.now c.args.level c.states.result c.args.row.now c.step_costs.new.row c.states.ensures.bounded c.requires.level c.states.ensures.value c.requires.row c.step_costs.ensures in
    c.choose.ensures.choices q (omega (arith, long, c.states.ensures.value))
    ∙ (λ z. cond (get_or (seconds (lower c.args.row.now (c.split_at.ensures.front z)) (upper c.args.row.now (c.split_at.ensures.back z))) q false) 1 0)
    ∙ decided c.args.window.now c.args.level c.states.result c.args.row.now c.step_costs.new.row c.states.ensures.bounded c.requires.level c.states.ensures.value c.requires.row c.step_costs.ensures q (omega (arith, c.states.ensures.value))
