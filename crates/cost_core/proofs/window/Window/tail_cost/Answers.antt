use Rattle.std.proofs.Common.{◌≡◌, ◌+◌, ◌<◌, false, length, get_or, ap, ◌∙◌, arith}
use mir.Val.{bool_byte}
use Rattle.cost_core.specs.StateCosts.{step_of}
use Rattle.cost_core.specs.Limits.{IsBridging}
use Rattle.cost_core.proofs.Tables.{table_small}
use Rattle.cost_core.proofs.Reading.{steps_more, steps_done, state_below}
use Rattle.cost_core.proofs.window.Window.tail_cost.Goals as goal
use Rattle.cost_core.proofs.window.Window.tail_cost.Goals.{After-self}

limits : (c : After-self) → IsBridging c.args.self.now
limits c = rw c.self.view_is at c.self.invariant.limits

pub overflow_mul-state : goal.overflow_mul-state
overflow_mul-state c = omega (arith, table_small c.args.self.now (limits (goal.at.overflow_mul-state c).After-self), c.loop-i.invariant.state)

pub loop-i-preserved : goal.loop-i-preserved
loop-i-preserved c =
    let d = c.args.self.now in
    let k = c.loop-i.i in
    let f = ap (λ v. v.following) c.self.view_is in
    let l = ap (λ v. v.levels) c.self.view_is in
    let lt : k < length d.following = omega (arith, c.len-i-end.ensures.value, ap length f) in
    let b = c.get-bit.ensures ∙ ap (λ v. get_or v k false) f in
    let e : d.levels + (k + 1) ≡ d.levels + k + 1 = omega arith in
    let v = c.deviation-total.ensures.value ∙ ap (λ n. step_of d (n + k) c.loop-i.state c.get-bit.result) l ∙ ap (step_of d (d.levels + k) c.loop-i.state) b in
    record {
      state = state_below _ (length d.preceding) _ c.states.ensures.value;
      total = omega (arith, c.loop-i.invariant.total, c.deviation-total.ensures.bound);
      sum = rw e (steps_more d.following k c.from.result lt (c.from.ensures ∙ ap bool_byte b) (length d.preceding) (step_of d) (d.levels + k) c.loop-i.state _ c.deviation-total.result c.loop-i.total _ c.states.ensures.value v c.loop-i.invariant.sum);
    }

pub returns : goal.returns
returns c =
    let d = c.args.self.now in
    steps_done d.following (length d.preceding) (step_of d) c.loop-i.i (d.levels + c.loop-i.i) c.loop-i.state c.loop-i.total _ (omega (arith, c.len-i-end.ensures.value, ap (λ v. length v.following) c.self.view_is)) c.loop-i.invariant.sum
