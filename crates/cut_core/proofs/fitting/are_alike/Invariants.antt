use Rattle.std.proofs.Common.{◌≡◌, Ok}
use Rattle.cut_core.specs.Excerpts.{excerpts_shapes}
use Rattle.cut_core.specs.Opening.{alike_at, each_before}
use Rattle.cut_core.proofs.fitting.are_alike.Given as goal

abbrev pub invariant-loop-i : goal.invariant-loop-i
invariant-loop-i l = record { before : each_before l.i (alike_at (excerpts_shapes l.takes)) ≡ Ok tt }
