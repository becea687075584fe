use Rattle.std.proofs.Common.{◌≡◌, ◌+◌, ◌<◌, length, ap, ◌∙◌, arith}
use mir.Val.{bool_byte}
use Rattle.cost_core.specs.Trellis.{cost, cost_from, state_after}
use Rattle.cost_core.specs.StateCosts.{step_of, trellis_of}
use Rattle.cost_core.specs.Limits.{IsBridging}
use Rattle.cost_core.proofs.Places.{cost_is}
use Rattle.cost_core.proofs.Limits.{costs_in_bounds}
use Rattle.cost_core.proofs.Tables.{table_small}
use Rattle.cost_core.proofs.Reading.{cost_more, cost_done, state_below}
use Rattle.cost_core.proofs.window.Window.cost_of.Goals as goal
use Rattle.cost_core.proofs.window.Window.cost_of.Goals.{After-self, After-tail_cost}

limits : (c : After-self) → IsBridging c.args.self.now
limits c = rw c.self.view_is at c.self.invariant.limits

pub overflow_mul-state : goal.overflow_mul-state
overflow_mul-state c = omega (arith, table_small c.args.self.now (limits (goal.at.overflow_mul-state c).After-self), c.loop-level.invariant.state)

pub loop-level-preserved : goal.loop-level-preserved
loop-level-preserved c =
    let d = c.args.self.now in
    let k = c.loop-level.level in
    let levels = ap (λ v. v.levels) c.self.view_is in
    let lt : k < length c.args.bits.now = omega (arith, c.requires) in
    record {
      state = state_below _ (length d.preceding) _ c.states.ensures.value;
      total = omega (arith, c.loop-level.invariant.total, c.deviation-total.ensures.bound);
      sum = cost_more c.args.bits.now k c.from.result lt (c.from.ensures ∙ ap bool_byte c.get-bit.ensures) (trellis_of d) k c.loop-level.state _ c.deviation-total.result c.loop-level.total _ c.states.ensures.value (c.deviation-total.ensures.value ∙ ap (step_of d k c.loop-level.state) c.get-bit.ensures) c.loop-level.invariant.sum;
    }

pub loop-level-init : goal.loop-level-init
unfolding cost
loop-level-init c =
    let d = c.args.self.now in
    let e = c.self.invariant.start_is ∙ ap (λ v. state_after (length v.preceding) 0 v.preceding) c.self.view_is in
    record {
      state = rw e (costs_in_bounds d (limits c)).start_in;
      total = omega arith;
      sum = omega (arith, ap (λ q. cost_from (trellis_of d) 0 q c.args.bits.now) e);
    }

pub overflow_add-result : goal.overflow_add-result
overflow_add-result c =
    let d = c.args.self.now in
    let fine = limits (goal.at.overflow_add-result c).After-self in
    let levels = ap (λ v. v.levels) c.self.view_is in
    omega (arith, c.loop-level.invariant.total, c.loop-level.auto.level-end, levels, fine.levels_in, c.tail_cost.ensures, (costs_in_bounds d fine).tail_in c.loop-level.state c.loop-level.invariant.state)

steps_are : (c : After-tail_cost) → c.loop-level.total + c.tail_cost.result ≡ cost (trellis_of c.args.self.now) c.args.bits.now
steps_are c =
    let d = c.args.self.now in
    let levels = ap (λ v. v.levels) c.self.view_is in
    ap (λ n. c.loop-level.total + n) c.tail_cost.ensures ∙ cost_done c.args.bits.now (trellis_of d) c.loop-level.level c.loop-level.level c.loop-level.state c.loop-level.total _ (omega (arith, c.requires, levels)) c.loop-level.invariant.sum

pub returns : goal.returns
returns c = record {
  places = steps_are (goal.at.returns c).After-tail_cost ∙ cost_is c.args.self.now c.args.bits.now (limits (goal.at.returns c).After-self).before c.requires;
  steps = steps_are (goal.at.returns c).After-tail_cost;
}
