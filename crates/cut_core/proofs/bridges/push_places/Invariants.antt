use Rattle.std.proofs.Common.{◌≡◌, ◌+◌, ◌++◌, length, map}
use Rattle.std.specs.List.{range_with_len}
use Rattle.cut_core.proofs.BridgeLaws.{place_of}
use Rattle.cut_core.proofs.bridges.push_places.Given as goal

abbrev pub invariant-loop-channel : goal.invariant-loop-channel
invariant-loop-channel l = record {
  items : l.out.items ≡ l.fn.out.items ++ map (place_of l.cue) (range_with_len 0 l.channel);
  long : length l.out.items ≡ length l.fn.out.items + l.channel;
}
