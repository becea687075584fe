use Rattle.null_core.proofs.ErrorLaws.{AreSoFar}
use Rattle.null_core.specs.Parts.{asked_content}
use Rattle.null_core.proofs.errors.push_quiet.Given as goal

abbrev pub invariant-loop-i : goal.invariant-loop-i
invariant-loop-i l = AreSoFar (asked_content l.asked) l.bits l.from l.i l.fn.errors.items l.errors.items
