use Rattle.std.proofs.Common.{◌∙◌, arith, length, pos, refl}
use Rattle.heard_core.proofs.PartLaws.{all_before, none_before}
use Rattle.heard_core.proofs.sums.sum_places.Goals as goal

pub loop-p-init : goal.loop-p-init
loop-p-init c =
    none_before c.args.source.taps.now c.args.source.bits.now c.args.place (length c.args.sums.now) c.fill.new.self c.fill.ensures.len
    (λ i h. c.fill.ensures.clones i (pos 0) (omega (arith, c.fill.ensures.len)) refl)

pub returns : goal.returns
returns c =
    c.loop-p.invariant
    ∙ all_before c.args.source.taps.now c.loop-p.p c.args.source.bits.now c.args.place (length c.args.sums.now) (omega (arith, c.div_ceil-p-end.ensures, c.loop-p.auto.p-end, c.loop-p-test.false))
