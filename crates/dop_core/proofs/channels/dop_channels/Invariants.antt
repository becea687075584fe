use Rattle.std.proofs.Common.{◌≡◌, map}
use Rattle.std.specs.List.{range_with_len}
use Rattle.dop_core.specs.Reading.{dop_channel}
use Rattle.dop_core.proofs.channels.dop_channels.Given as goal

abbrev pub invariant-loop-c : goal.invariant-loop-c
invariant-loop-c l = l.made.items ≡ map (dop_channel l.channels l.sound l.count) (range_with_len 0 l.c)
