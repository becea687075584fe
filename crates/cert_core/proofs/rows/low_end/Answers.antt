use Rattle.std.proofs.Common.{◌≡◌, ℕ, ◌+◌, ◌<◌, ◌≤◌, ◌^◌, refl, get_or, below_more, arith}
use Rattle.std.proofs.lemmas.Simd.{Each1-from_get_or}
use Rattle.cost_core.specs.Trellis.{states}
use Rattle.cost_core.specs.StateCosts.{trellis_of}
use Rattle.cost_core.proofs.StepRows.{tail_at}
use Rattle.cert_core.proofs.rows.low_end.Goals as goal
use Rattle.cert_core.proofs.rows.low_end.Goals.{After-tail_costs}

tail : (c : After-tail_costs) → (q : ℕ) → q < states (trellis_of c.args.window.now) → get_or c.tail_costs.new.row q 0 ≡ (trellis_of c.args.window.now).tail q
tail c q h = tail_at c.args.window.now q c.tail_costs.new.row c.tail_costs.ensures h

pub all_reach-requires-clause-tails : goal.all_reach-requires-clause-tails
all_reach-requires-clause-tails c = Each1-from_get_or (λ x. x < 2 ^ 63) c.tail_costs.new.row 0 (λ q h.
    let inside : q < states (trellis_of c.args.window.now) = omega (arith, c.tail_costs.auto.row, c.requires.tails) in
    omega (arith, tail (goal.at.all_reach-requires-clause-tails c).After-tail_costs q inside, c.requires.bounded.tail_in q inside))

pub returns-then-all_reach : goal.returns-then-all_reach
returns-then-all_reach c = λ q h. omega (arith, c.if-all_reach.ensures refl q (omega (arith, c.requires.last)), tail (goal.at.returns-then-all_reach c).After-tail_costs q h)

pub overflow_add-last : goal.overflow_add-last
overflow_add-last c =
    let q = c.loop-state.state in
    let h : q < states (trellis_of c.args.window.now) = omega (arith, c.loop-state-test.true, c.requires.last) in
    omega (arith, tail (goal.at.overflow_add-last c).After-tail_costs q h, c.requires.bounded.tail_in q h, c.requires.limit q h)

pub returns-then-last-state : goal.returns-then-last-state
returns-then-last-state c =
    let q = c.loop-state.state in
    let h : q < states (trellis_of c.args.window.now) = omega (arith, c.loop-state-test.true, c.requires.last) in
    (h, omega (arith, c.if-last-state.true, tail (goal.at.returns-then-last-state c).After-tail_costs q h), c.loop-state.invariant)

pub loop-state-preserved : goal.loop-state-preserved
loop-state-preserved c =
    let q = c.loop-state.state in
    let h : q < states (trellis_of c.args.window.now) = omega (arith, c.loop-state-test.true, c.requires.last) in
    below_more (λ k. c.args.stated ≤ get_or c.args.last.now k 0 + (trellis_of c.args.window.now).tail k) q c.loop-state.invariant
    (omega (arith, c.if-last-state.false, tail (goal.at.loop-state-preserved c).After-tail_costs q h))
