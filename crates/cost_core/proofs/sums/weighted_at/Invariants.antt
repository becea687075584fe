use Rattle.std.proofs.Common.{◌≡◌, ◌-◌, false, get_or}
use Rattle.dsd_bits.specs.Sums.{sum_below}
use Rattle.cost_core.proofs.SumLaws.{weight_term}
use Rattle.cost_core.proofs.sums.weighted_at.Given as goal

abbrev pub invariant-loop-k : goal.invariant-loop-k
invariant-loop-k l = l.sum ≡ sum_below l.k (weight_term l.weights (λ k. get_or l.bits (l.place - k) false))
