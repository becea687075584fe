use Rattle.std.proofs.Common.{map}
use Rattle.null_core.specs.Parts.{part_content}
use Rattle.null_core.proofs.OwnLaws.{AlikeSoFar}
use Rattle.null_core.proofs.own.alike_until.Given as goal

abbrev pub invariant-loop-part : goal.invariant-loop-part
invariant-loop-part l = AlikeSoFar (map part_content l.parts) l.bits l.m l.until l.part-index l.end
