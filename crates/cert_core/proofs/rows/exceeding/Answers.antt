use Rattle.std.proofs.Common.{refl, length, take, subst, ◌≡◌, false, true, sym, ◌∙◌, below_more, arith}
use Rattle.cost_core.specs.StateCosts.{trellis_of}
use Rattle.cert_core.specs.Reasons.{Exceeds}
use Rattle.cost_core.proofs.StepRows.{states_whole}
use Rattle.cost_core.proofs.WayLaws.{are_ways}
use Rattle.cert_core.specs.Within.{WithinBoth}
use Rattle.cert_core.proofs.Within.{none_exceeds}
use Rattle.cert_core.proofs.rows.exceeding.Goals as goal

pub loop-state-preserved : goal.loop-state-preserved
loop-state-preserved c =
    below_more (λ k. Exceeds (trellis_of c.args.rows.now.window.now) c.args.rows.now.level c.args.rows.now.previous.now c.args.rows.now.row.now k → ⊥) c.loop-state.state c.loop-state.invariant
    (λ x. let e : false ≡ true = sym c.if-exceeds.false ∙ c.exceeds.ensures.1 x in cc)

pub returns-clause-found : goal.returns-clause-found
returns-clause-found c = λ q inside. c.loop-state.invariant q (omega (arith, c.loop-state-test.false, c.states-states.ensures.value))

pub is_within-requires-clause-whole : goal.is_within-requires-clause-whole
is_within-requires-clause-whole c = states_whole (trellis_of c.args.rows.now.window.now).width (length c.args.rows.now.previous.now) c.args.rows.now.rows.previous_len (omega (arith, c.args.rows.now.rows.previous_len, c.states-states.ensures.value))

pub invariant_of-ways : goal.invariant_of-ways
invariant_of-ways c = record {
  ways = are_ways c.args.rows.now.window.now c.args.rows.now.level c.states-states.result c.args.rows.now.previous.now c.step_costs.new.row c.states-states.ensures.bounded c.args.rows.now.rows.inside c.states-states.ensures.value (omega (arith, c.args.rows.now.rows.previous_len, c.states-states.ensures.value)) c.step_costs.ensures
      (λ q h. c.args.rows.now.rows.limit q (omega (arith, h, c.args.rows.now.rows.previous_len))) _ _ c.split_at.ensures.front c.split_at.ensures.back;
}

pub returns-then-is_within-clause-found : goal.returns-then-is_within-clause-found
returns-then-is_within-clause-found c =
    let previous = c.args.rows.now.previous.now in
    let row = c.args.rows.now.row.now in
    none_exceeds c.args.rows.now.window.now c.args.rows.now.level c.states-states.result c.args.rows.now.previous.now c.args.rows.now.row.now c.step_costs.new.row c.states-states.ensures.bounded c.args.rows.now.rows.inside c.states-states.ensures.value (omega (arith, c.args.rows.now.rows.previous_len, c.states-states.ensures.value)) c.step_costs.ensures
    (subst (λ highs. WithinBoth (length previous) previous (take c.states-states.result c.step_costs.new.row) highs row) c.split_at.ensures.back
    (subst (λ lows. WithinBoth (length previous) previous lows c.split_at.result.1.now row) c.split_at.ensures.front (c.if-is_within.ensures refl)))

pub returns-then-exceeds-clause-found : goal.returns-then-exceeds-clause-found
returns-then-exceeds-clause-found c = (omega (arith, c.loop-state-test.true, c.states-states.ensures.value), c.exceeds.ensures.0 c.if-exceeds.true, c.loop-state.invariant)
