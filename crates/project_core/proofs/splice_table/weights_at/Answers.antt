use Rattle.std.proofs.Common.{arith}
use Rattle.project_core.proofs.SpliceLaws.{weights_refused, weights_taken}
use Rattle.project_core.proofs.splice_table.weights_at.Goals as goal

pub returns-then-len-lt2 : goal.returns-then-len-lt2
returns-then-len-lt2 c =
    weights_refused _ c.in_ok-weights.weights.items c.in_ok-weights.ensures (λ fit. grind (arith, fit.two_weights, fit.few_weights, fit.small_sum))

pub returns : goal.returns
returns c =
    weights_taken _ c.in_ok-weights.weights.items c.in_ok-weights.ensures (record {
      two_weights = omega arith;
      few_weights = omega arith;
      small_sum = rw (← c.deref.ensures.value) (omega arith);
    })
