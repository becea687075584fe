use Rattle.std.proofs.Common.{map}
use Rattle.cut_core.specs.Excerpts.{excerpts_content}
use Rattle.null_core.specs.Fitting.{AreAlike, read_shapes}
use Rattle.null_core.proofs.fitting.first_unlike.Given as goal

abbrev pub invariant-loop-number : goal.invariant-loop-number
invariant-loop-number l = AreAlike l.number (read_shapes (map excerpts_content l.takes))
