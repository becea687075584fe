use Rattle.std.proofs.Common.{◌≡◌, drop}
use Rattle.speaker_core.specs.Speakers.{channel_with}
use Rattle.speaker_core.proofs.speakers.channel_with.Given as goal

abbrev pub invariant-loop-c : goal.invariant-loop-c
invariant-loop-c l = channel_with l.speaker l.channels 0 ≡ channel_with l.speaker (drop l.c l.channels) l.c
