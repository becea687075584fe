use Rattle.std.proofs.Common.{string_bytes}
use Rattle.null_commands.proofs.LineLaws.{channel_more}
use Rattle.null_commands.proofs.lines.push_stretches.Goals as goal

pub loop-channel-preserved : goal.loop-channel-preserved
loop-channel-preserved c =
    channel_more c.args.full c.loop-channel.channel c.index-stretches-channel.result c.args.stretches.now c.as_slice.result.now (string_bytes c.args.text.now) (string_bytes c.loop-channel.text) (string_bytes c.push_channel.new.text) c.loop-channel-test.true c.index-stretches-channel.is c.as_slice.ensures.value
    c.loop-channel.invariant c.in_ok-push_channel.ensures
