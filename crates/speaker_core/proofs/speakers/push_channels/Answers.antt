use Rattle.std.proofs.Common.{option_to_list}
use Rattle.dsd_bits.proofs.ExitLaws.{no_ok}
use Rattle.speaker_core.specs.Speakers.{channel_with}
use Rattle.speaker_core.proofs.ListLaws.{flat_more}
use Rattle.speaker_core.proofs.speakers.push_channels.Goals as goal

pub loop-speaker-preserved : goal.loop-speaker-preserved
loop-speaker-preserved c =
    let channels = c.args.channels.now in
    let inv = c.loop-speaker.invariant in
    record {
      order = flat_more (λ speaker. option_to_list (channel_with speaker channels 0)) c.args.named.now c.loop-speaker.speaker-index c.args.order.now.items c.loop-speaker.order.items c.push_channel.new.order.items c.loop-speaker-test.true inv.order c.in_ok-push_channel.ensures.ok;
      inside = λ before. c.push_channel.ensures.inside (inv.inside before);
    }

pub returns-in_err-push_channel : goal.returns-in_err-push_channel
returns-in_err-push_channel c = record {
  ok = no_ok _ _ c.from_residual.result c.from_residual.ensures.1;
  inside = λ before. c.push_channel.ensures.inside (c.loop-speaker.invariant.inside before);
}
