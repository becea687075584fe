use Rattle.std.proofs.Common.{◌≡◌, ap, arith, take}
use Rattle.std.proofs.lemmas.List.{take_all}
use Rattle.heard_core.specs.Naturals.{natural}
use Rattle.heard_core.proofs.NaturalLaws.{compared, limb_fits}
use Rattle.heard_core.proofs.naturals.is_at_most.Goals as goal

pub loop-i-preserved : goal.loop-i-preserved
loop-i-preserved c =
    let said = c.is_still_at_most-at_most.ensures in
    compared c.args.left.now c.args.right.now c.loop-i.i c.loop-i.at_most c.is_still_at_most-at_most.result (limb_fits c.args.left.now c.type_inv.left) (limb_fits c.args.right.now c.type_inv.right) c.loop-i.invariant
    (rw (c.limb.ensures, c.limb-in-loop-i.ensures) at said.at_most) (rw (c.limb.ensures, c.limb-in-loop-i.ensures) at said.above)

pub returns : goal.returns
returns c =
    let left : take c.loop-i.i c.args.left.now ≡ c.args.left.now = take_all c.loop-i.i c.args.left.now (omega arith) in
    let right : take c.loop-i.i c.args.right.now ≡ c.args.right.now = take_all c.loop-i.i c.args.right.now (omega arith) in
    (λ x. omega (arith, ap natural left, ap natural right, c.loop-i.invariant.0 x), λ l. c.loop-i.invariant.1 (omega (arith, ap natural left, ap natural right, l)))
