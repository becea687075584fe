use Rattle.dsd_bits.proofs.ExitLaws.{no_value}
use Rattle.std.proofs.Common.{◌≡◌, ◌*◌, ◌^◌, ◌∙◌, ap, arith}
use Rattle.heard_core.specs.Naturals.{natural}
use Rattle.heard_core.proofs.NaturalLaws.{next_power, no_power}
use Rattle.heard_core.proofs.naturals.multiply_by_power.Goals as goal

pub loop-init : goal.loop-init
loop-init c = no_power (natural c.args.limbs.now.items) c.args.factor

pub returns-in_err-multiply : goal.returns-in_err-multiply
returns-in_err-multiply c = no_value _ _ c.from_residual.result c.from_residual.ensures.1

pub loop-preserved : goal.loop-preserved
loop-preserved c = next_power (natural c.args.limbs.now.items) c.args.factor c.loop.counter _ _ c.loop.invariant c.in_ok-multiply.ensures

pub returns : goal.returns
returns c =
    let ended : c.loop.counter ≡ c.args.exponent = omega arith in
    c.loop.invariant ∙ ap (λ e. natural c.args.limbs.now.items * c.args.factor ^ e) ended
