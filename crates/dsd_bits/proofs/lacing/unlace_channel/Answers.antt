use Rattle.std.proofs.Common.{◌∙◌, arith}
use Rattle.dsd_bits.proofs.LacingLemmas.{unlaced_is}
use Rattle.dsd_bits.proofs.lacing.unlace_channel.Goals as goal

pub returns : goal.returns
returns c =
    let len = c.in_ok-resize.ensures.len in
    unlaced_is _ c.args.bytes.now c.pick.new.to _ c.args.channels c.args.channel _ (c.pick.auto.to ∙ c.as_mut_slice.ensures.len) len (λ k h. c.pick.ensures k (omega (arith, c.pick.auto.to))) c.from_whole_bytes-2.ensures
