use Rattle.std.proofs.Common.{◌≡◌, ◌+◌, length}
use Rattle.player_core.specs.PlayerView.{AreNew}
use Rattle.player_core.proofs.player.streams_of.Given as goal

abbrev pub invariant-loop-channel : goal.invariant-loop-channel
invariant-loop-channel l = record {
  number : length l.streams.items + 1 ≡ l._channel;
  each : AreNew l.taps l.sound.count l.streams.items;
}
