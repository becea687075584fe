use Rattle.std.proofs.Common.{ap, length, ◌∙◌, arith}
use Rattle.trellis_core.proofs.TableLaws.{shift_in, opened, stride_at, final_zero, final_takes_0, final_takes_1, total_at, totals_length}
use Rattle.cost_core.specs.StateCosts.{trellis_of}
use Rattle.trellis_core.proofs.ends.+end_state.Goals as goal

pub returns-then-rest-eq0-clause-chosen : goal.returns-then-rest-eq0-clause-chosen
returns-then-rest-eq0-clause-chosen m c =
    final_zero (trellis_of c.args.window.now) c.args.rest c.args.low c.if-rest-eq0.true

pub overflow_shr-stride : goal.overflow_shr-stride
overflow_shr-stride m c =
    let t = trellis_of c.args.window.now in
    shift_in t.width c.args.rest c.states.result c.states.ensures.value c.states.type_inv c.requires.rest

pub end_state-with_0-requires : goal.end_state-with_0-requires
end_state-with_0-requires m c =
    let t = trellis_of c.args.window.now in
    let o = opened t.width c.args.rest c.args.low c.states.result (omega arith) c.requires.rest c.requires.low c.states.ensures.value in
    (omega arith, (c.requires.bounded, (c.requires.totals, (omega arith, o.0))))

pub overflow_add-low : goal.overflow_add-low
overflow_add-low m c =
    let t = trellis_of c.args.window.now in
    omega (arith, (opened t.width c.args.rest c.args.low c.states.result (omega arith) c.requires.rest c.requires.low c.states.ensures.value).2)

pub end_state-with_1-requires : goal.end_state-with_1-requires
end_state-with_1-requires m c =
    let t = trellis_of c.args.window.now in
    let o = opened t.width c.args.rest c.args.low c.states.result (omega arith) c.requires.rest c.requires.low c.states.ensures.value in
    (omega arith, (c.requires.bounded, (c.requires.totals, (omega arith, o.1))))

pub returns-then-totals-with_1-clause-chosen : goal.returns-then-totals-with_1-clause-chosen
returns-then-totals-with_1-clause-chosen m c =
    let t = trellis_of c.args.window.now in
    final_takes_1 t c.args.rest c.args.low _ _ _ (omega arith) (stride_at t.width c.args.rest c.states.result c.states.ensures.value c.requires.rest)
    c.end_state-with_0.ensures.chosen c.end_state-with_1.ensures.chosen (omega (arith, total_at t c.args.totals.now c.requires.totals c.end_state-with_0.result c.end_state-with_0.ensures.in_range, total_at t c.args.totals.now c.requires.totals c.end_state-with_1.result c.end_state-with_1.ensures.in_range))

pub returns-else-totals-with_1-clause-chosen : goal.returns-else-totals-with_1-clause-chosen
returns-else-totals-with_1-clause-chosen m c =
    let t = trellis_of c.args.window.now in
    final_takes_0 t c.args.rest c.args.low _ _ _ (omega arith) (stride_at t.width c.args.rest c.states.result c.states.ensures.value c.requires.rest)
    c.end_state-with_0.ensures.chosen c.end_state-with_1.ensures.chosen (omega (arith, total_at t c.args.totals.now c.requires.totals c.end_state-with_0.result c.end_state-with_0.ensures.in_range, total_at t c.args.totals.now c.requires.totals c.end_state-with_1.result c.end_state-with_1.ensures.in_range))

pub bounds-totals-with_1 : goal.bounds-totals-with_1
bounds-totals-with_1 m c = omega (arith, ap length c.requires.totals ∙ totals_length (trellis_of c.args.window.now), c.end_state-with_1.ensures.in_range)

pub bounds-totals-with_0 : goal.bounds-totals-with_0
bounds-totals-with_0 m c = omega (arith, ap length c.requires.totals ∙ totals_length (trellis_of c.args.window.now), c.end_state-with_0.ensures.in_range)
