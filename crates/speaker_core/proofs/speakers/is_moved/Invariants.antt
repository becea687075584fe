use Rattle.std.proofs.Common.{◌≡◌, drop}
use Rattle.speaker_core.specs.Speakers.{is_moved}
use Rattle.speaker_core.proofs.speakers.is_moved.Given as goal

abbrev pub invariant-loop-k : goal.invariant-loop-k
invariant-loop-k l = is_moved l.order 0 ≡ is_moved (drop l.k l.order) l.k
