use Rattle.std.proofs.Common.{sym, arith}
use Rattle.std.proofs.lemmas.List.FromFn.{map-range_with_len_more}
use Rattle.dop_core.specs.Reading.{dop_channel}
use Rattle.dop_core.proofs.channels.dop_channels.Goals as goal

pub loop-c-preserved : goal.loop-c-preserved
loop-c-preserved c =
    rw (c.in_ok-push.ensures.items, c.loop-c.invariant, c.in_ok-dop_channel.ensures) (sym (map-range_with_len_more (dop_channel c.args.channels c.args.sound.now c.args.count) 0 c.loop-c.c c.loop-c.c (omega arith)))
