use Rattle.std.proofs.Common.{◌≡◌, ◌<◌, ◌++◌, All, length, take}
use Rattle.speaker_core.specs.Speakers.{channels_of}
use Rattle.speaker_core.proofs.speakers.push_channels.Given as goal

abbrev pub invariant-loop-speaker : goal.invariant-loop-speaker
invariant-loop-speaker l = record {
  order : l.order.items ≡ l.fn.order.items ++ channels_of l.channels (take l.speaker-index l.named);
  inside : All (λ c. c < length l.channels) l.fn.order.items → All (λ c. c < length l.channels) l.order.items;
}
