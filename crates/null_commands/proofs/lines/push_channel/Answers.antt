use Rattle.std.proofs.Common.{string_bytes, refl}
use Rattle.null_commands.proofs.LineLaws.{stretch_more}
use Rattle.null_commands.proofs.lines.push_channel.Goals as goal

pub loop-stretch-preserved : goal.loop-stretch-preserved
loop-stretch-preserved c =
    stretch_more c.args.full c.args.channel c.loop-stretch.stretch-index _ (record { first = 0; last = 0; residual = 0; place = 0 }) c.args.stretches.now (string_bytes c.args.text.now) (string_bytes c.loop-stretch.text) (string_bytes c.push_stretch.new.text) c.loop-stretch-test.true refl
    c.loop-stretch.invariant c.in_ok-push_stretch.ensures
