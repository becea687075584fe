use Rattle.std.proofs.Common.{All, take}
use Rattle.dsd_bits.specs.Contents.{mark_content}
use Rattle.dsdiff_core.specs.ReadAgain.{FitsMark}
use Rattle.dsdiff_core.proofs.fields.marks_fit.Given as goal

abbrev pub invariant-loop-mark : goal.invariant-loop-mark
invariant-loop-mark l = All (λ mark. FitsMark (mark_content mark)) (take l.mark-index l.marks)
