use Rattle.std.proofs.Common.{◌≡◌, ◌-◌, false, get_or, length, ap, ◌∙◌, arith}
use Rattle.dsd_bits.specs.Sums.{sum_below}
use Rattle.cost_core.specs.Weighted.{weighted}
use Rattle.cost_core.proofs.SumLaws.{weight_term, partly_weighed_in, next_fits, next_is}
use Rattle.cost_core.proofs.sums.weighted_at.Goals as goal

pub overflow_add-sum : goal.overflow_add-sum
overflow_add-sum c =
    next_fits c.args.weights.now (λ k. get_or c.args.bits.now (c.args.place - k) false) c.requires.weights.small_sum c.loop-k.k c.loop-k-test.true _ c.signed-sum.result c.loop-k.invariant (rw (← c.get.ensures) c.signed-sum.ensures)

pub loop-k-preserved : goal.loop-k-preserved
loop-k-preserved c =
    next_is c.args.weights.now (λ k. get_or c.args.bits.now (c.args.place - k) false) c.requires.weights.small_sum c.loop-k.k c.loop-k-test.true _ c.signed-sum.result c.loop-k.invariant (rw (← c.get.ensures) c.signed-sum.ensures)

pub returns-clause-value : goal.returns-clause-value
unfolding weighted
returns-clause-value c =
    let all : c.loop-k.k ≡ length c.args.weights.now = omega (arith, c.loop-k-test.false, c.loop-k.auto.k-end) in
    c.loop-k.invariant ∙ ap (λ k. sum_below k (weight_term c.args.weights.now (λ j. get_or c.args.bits.now (c.args.place - j) false))) all

pub returns-clause-bound : goal.returns-clause-bound
returns-clause-bound c =
    rw c.loop-k.invariant (omega (arith, c.requires.weights.small_sum, partly_weighed_in c.args.weights.now (λ k. get_or c.args.bits.now (c.args.place - k) false) c.loop-k.k c.loop-k.auto.k-end))
