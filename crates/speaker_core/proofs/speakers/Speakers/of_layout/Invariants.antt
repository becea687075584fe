use Rattle.std.proofs.Common.{◌≡◌, Some, map, take}
use Rattle.speaker_core.proofs.speakers.Speakers.of_layout.Given as goal

abbrev pub invariant-loop-speaker : goal.invariant-loop-speaker
invariant-loop-speaker l = l.channels.items ≡ map (λ speaker. Some speaker) (take l.speaker-index l.named)
