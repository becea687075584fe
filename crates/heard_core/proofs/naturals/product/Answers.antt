use Rattle.std.proofs.Common.{◌<◌, ◌+◌, ◌*◌, ◌∙◌, arith}
use Rattle.heard_core.proofs.NaturalLaws.{limbs_fit, two_limbs}
use Rattle.heard_core.proofs.naturals.product.Goals as goal

bound : (c : goal.After-from-3) → c.from.result * c.from-2.result + c.from-3.result < 340282366920938463463374607431768211456
bound c = limbs_fit c.from.result c.from-2.result c.from-3.result (omega arith) (omega arith) (omega arith)

pub overflow_add-product : goal.overflow_add-product
overflow_add-product c = record { fits = bound c }

pub overflow_cast-result-2 : goal.overflow_cast-result-2
overflow_cast-result-2 c = record { fits = omega (arith, bound c) }

pub returns : goal.returns
returns c = two_limbs (c.from.result * c.from-2.result + c.from-3.result) ∙ (λ i. c.from.ensures i * c.from-2.ensures i + c.from-3.ensures i)
