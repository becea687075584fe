use Rattle.std.proofs.Common.{◌+◌, ◌*◌, ◌/◌, ◌++◌, ◌∙◌, take, ap, arith, length-append}
use Rattle.dsd_bits.proofs.ShiftingLemmas.{written_after}
use Rattle.interleave_core.proofs.MovingLaws.{frames_are}
use Rattle.interleave_core.proofs.moving.push_as_frames.Goals as goal

pub returns-clause-ok : goal.returns-clause-ok
returns-clause-ok c =
    let s = c.args.stretch in
    let prefix = c.split_at_mut-frames.result.0.now in
    let new = c.put_in_order.new.bytes in
    let filled = c.fill_frames.new.frames in
    written_after c.args.out.now.items _ c.resize.new.self.items prefix new _ c.len-kept.result (c.len-kept.result + s.count / 8 * s.channels) c.resize.new.self.len
    (omega arith) (omega arith) c.in_ok-resize.ensures.items (c.split_at_mut-frames.ensures.front ∙ ap (take c.len-kept.result) c.as_mut_slice.ensures.value)
    (omega (arith, length-append prefix new))
    ∙ ap (λ xs. c.args.out.now.items ++ xs) (c.put_in_order.ensures ∙ frames_are c.args.order c.args.bytes.now filled s.channels s.count c.args.stretch.channel_number.0 c.requires.whole c.args.stretch.in_limit (λ k. omega (arith, c.type_inv.bytes k)) (omega (arith, c.fill_frames.auto.frames, c.split_at_mut-frames.ensures.back_len, c.as_mut_slice.ensures.len, c.in_ok-resize.ensures.len)) c.fill_frames.ensures)
