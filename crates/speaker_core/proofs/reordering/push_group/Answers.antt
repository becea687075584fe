use Rattle.std.proofs.Common.{◌≡◌, ◌+◌, ◌-◌, ◌*◌, ◌++◌, get_or, take, drop, ap, ◌∙◌, arith}
use Rattle.dsd_bits.proofs.ExitLaws.{no_ok}
use Rattle.speaker_core.proofs.ListLaws.{flat_more, in_group}
use Rattle.speaker_core.proofs.reordering.push_group.Goals as goal

pub overflow_mul-from : goal.overflow_mul-from
overflow_mul-from c = omega (arith, in_group c.args.order.now c.args.size c.loop-c.c-index c.requires.channels c.loop-c-test.true, c.requires.fits)

pub overflow_add-from : goal.overflow_add-from
overflow_add-from c = omega (arith, in_group c.args.order.now c.args.size c.loop-c.c-index c.requires.channels c.loop-c-test.true, c.requires.fits)

pub slice_bounds-extend_from_slice-end : goal.slice_bounds-extend_from_slice-end
slice_bounds-extend_from_slice-end c = omega (arith, in_group c.args.order.now c.args.size c.loop-c.c-index c.requires.channels c.loop-c-test.true, c.requires.whole)

pub returns-in_err-extend_from_slice : goal.returns-in_err-extend_from_slice
returns-in_err-extend_from_slice c = no_ok _ _ c.from_residual.result c.from_residual.ensures.1

pub loop-c-preserved : goal.loop-c-preserved
loop-c-preserved c =
    let size = c.args.size in
    let group = c.args.group.now in
    let at = get_or c.args.order.now c.loop-c.c-index 0 * size in
    let long : at + size - at ≡ size = omega arith in
    flat_more (λ d. take size (drop (d * size) group)) c.args.order.now c.loop-c.c-index c.args.out.now.items c.loop-c.out.items c.extend_from_slice.new.self.items c.loop-c-test.true c.loop-c.invariant
    (c.in_ok-extend_from_slice.ensures.items ∙ ap (λ k. c.loop-c.out.items ++ take k (drop at group)) long)
