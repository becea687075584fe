use Rattle.std.proofs.Common.{◌≡◌, ◌+◌, ◌-◌, ◌*◌, ◌/◌, ◌<◌, ◌∙◌, ap, arith, get_or, inl, inr, length, pos, sym, w32}
use Rattle.std.specs.Int.{int_wrap}
use Rattle.std.proofs.lemmas.Bool.{cases_lt}
use Rattle.fir_core.specs.Strides.{AreNear, steps_sum, stride_sum}
use Rattle.fir_core.proofs.StrideLaws.{near_same, near_turned, near_zeros, none_yet, step_within, turn_is}
use Rattle.fir_core.proofs.strides.add_stride.Goals as goal
use Rattle.fir_core.proofs.strides.add_stride.Goals.{After-add_step-in-loop-t}

pub loop-early-init : goal.loop-early-init
loop-early-init g c =
    near_same (λ k. pos 0) (λ k. steps_sum c.args.of.lookup.taps.now c.args.bytes.now c.args.of.lookup.step c.args.of.lookup.span c.args.s 0 (c.args.of.lookup.span - 8 * g.row.N + k)) g.row.N _
    (λ k h. sym (none_yet c.args.of.lookup.taps.now c.args.bytes.now c.args.of.lookup.step c.args.of.lookup.span c.args.s (c.args.of.lookup.span - 8 * g.row.N + k))) (near_zeros g.row.N)

pub add_step-requires : goal.add_step-requires
add_step-requires g c = (
  omega (arith, c.args.of.few),
  (
    omega (arith, c.args.of.few),
    step_within (8 * c.loop-early.early + c.args.s) (8 * (length c.args.sums.now / 8 + g.row.N) - 16) c.args.of.lookup.step (length c.args.bytes.now) (omega (arith, c.requires.room, c.requires.turn)) c.requires.enough,
  ),
)

pub loop-early-preserved : goal.loop-early-preserved
loop-early-preserved g c =
    near_turned c.args.of.lookup.taps.now c.args.bytes.now c.args.of.lookup.step c.args.of.lookup.span c.args.s c.loop-early.early g.row.N c.loop-early.near c.moved-near.result c.add_step.new.near c.args.of.span
    c.loop-early.invariant c.moved-near.ensures c.add_step.ensures.sums

pub add_step-requires-in-loop-t : goal.add_step-requires-in-loop-t
add_step-requires-in-loop-t g c = (
  omega (arith, c.args.of.few),
  (
    omega (arith, c.args.of.few),
    step_within (8 * (c.loop-t.t + (g.row.N - 1)) + c.args.s) (8 * (length c.args.sums.now / 8 + g.row.N) - 16) c.args.of.lookup.step (length c.args.bytes.now) (omega (arith, c.requires.room, c.requires.turn, c.args.of.some)) c.requires.enough,
  ),
)

turned : (g : _) (c : After-add_step-in-loop-t g) → AreNear g.row.N (λ k. steps_sum c.args.of.lookup.taps.now c.args.bytes.now c.args.of.lookup.step c.args.of.lookup.span c.args.s (c.loop-t.t + (g.row.N - 1) + 1) (c.args.of.lookup.span - 8 * g.row.N + k)) c.add_step-in-loop-t.new.near
turned g c =
    near_turned c.args.of.lookup.taps.now c.args.bytes.now c.args.of.lookup.step c.args.of.lookup.span c.args.s (c.loop-t.t + (g.row.N - 1)) g.row.N c.loop-t.near c.moved-near-in-loop-t.result c.add_step-in-loop-t.new.near c.args.of.span
    c.loop-t.invariant.near c.moved-near-in-loop-t.ensures c.add_step-in-loop-t.ensures.sums

pub add_eight-requires-clause-eight : goal.add_eight-requires-clause-eight
add_eight-requires-clause-eight g c = (turned g (goal.at.add_eight-requires-clause-eight g c).After-add_step-in-loop-t).eight 0 c.args.of.some

pub loop-t-preserved : goal.loop-t-preserved
loop-t-preserved g c =
    let hs = c.args.of.lookup.taps.now in
    let bytes = c.args.bytes.now in
    let step = c.args.of.lookup.step in
    let span = c.args.of.lookup.span in
    let s = c.args.s in
    let t = c.loop-t.t in
    let near = turned g (goal.at.loop-t-preserved g c).After-add_step-in-loop-t in
    record {
      near = near_same (λ k. steps_sum hs bytes step span s (t + (g.row.N - 1) + 1) (span - 8 * g.row.N + k)) (λ k. steps_sum hs bytes step span s (t + 1 + (g.row.N - 1)) (span - 8 * g.row.N + k)) g.row.N c.add_step-in-loop-t.new.near
          (λ k h. ap (λ m. steps_sum hs bytes step span s m (span - 8 * g.row.N + k)) (omega arith)) near;
      long = c.add_eight.ensures.len ∙ c.loop-t.invariant.long;
      done = λ i from below x is. elim (cases_lt i (8 * t + s)) [
        | inl low ↦ c.add_eight.ensures.before i low ∙ c.loop-t.invariant.done i from (omega (arith, low)) x is
        | inr high ↦
            let l = i - (8 * t + s) in
            let inside : l < 8 = omega (arith, high, below) in
            let at : 8 * t + s + l ≡ i = omega (arith, high) in
            ap (λ m. get_or c.add_eight.new.sums m (pos 0)) (sym at)
            ∙ c.add_eight.ensures.added l inside x (stride_sum hs bytes step span g.row.N s i) (near.each 0 l c.args.of.some inside ∙ ap (int_wrap w32) (turn_is hs bytes step span g.row.N s t l i c.args.of.some inside (sym at)))
            (ap (λ m. get_or c.loop-t.sums m (pos 0)) at ∙ c.loop-t.invariant.rest i (omega (arith, high)) ∙ is)
      ];
      rest = λ i h. c.add_eight.ensures.after i (omega (arith, h)) ∙ c.loop-t.invariant.rest i (omega (arith, h));
    }
