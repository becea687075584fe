use Rattle.std.proofs.Common.{◌≡◌, map, take}
use Rattle.speaker_core.specs.Speakers.{speaker_of}
use Rattle.speaker_core.proofs.speakers.Speakers.of_ids.Given as goal

abbrev pub invariant-loop-id : goal.invariant-loop-id
invariant-loop-id l = l.channels.items ≡ map speaker_of (take l.id-index l.ids)
