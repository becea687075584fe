use Rattle.std.proofs.Common.{◌≡◌, map, take}
use Rattle.speaker_core.specs.Speakers.{speaker_id}
use Rattle.speaker_core.proofs.speakers.layout_ids.Given as goal

abbrev pub invariant-loop-speaker : goal.invariant-loop-speaker
invariant-loop-speaker l = l.ids.items ≡ map speaker_id (take l.speaker-index l.named)
