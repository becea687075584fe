use Rattle.std.proofs.Common.{map}
use Rattle.null_core.specs.Parts.{part_content}
use Rattle.null_core.proofs.OwnLaws.{PastSoFar}
use Rattle.null_core.proofs.own.past_heard.Given as goal

abbrev pub invariant-loop-part : goal.invariant-loop-part
invariant-loop-part l = PastSoFar (map part_content l.parts) l.bits l.low l.end l.past
