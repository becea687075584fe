use Rattle.std.proofs.Common.{◌≢◌, arith, get_or, get_or-set_other}
use Rattle.heard_core.proofs.NaturalLaws.{next_product}
use Rattle.heard_core.proofs.naturals.multiply_limbs.Goals as goal

pub loop-i-preserved : goal.loop-i-preserved
loop-i-preserved c =
    let i = c.loop-i.i in
    let xs = c.loop-i.limbs in
    let ys = c.args.limbs.now in
    record {
      done = next_product xs ys i c.args.factor c.loop-i.carry (get_or xs i 0) c.product-low.result.0 c.product-low.result.1 (omega (arith, c.loop-i.auto.limbs)) c.loop-i.invariant.done (c.loop-i.invariant.rest i (omega arith)) c.product-low.ensures;
      rest = λ k h. let ne : k ≢ i = omega arith in rw get_or-set_other (c.loop-i.invariant.rest k (omega arith));
    }
