use Rattle.std.proofs.Common.{◌≡◌, [], drop, take}
use Rattle.dsdiff_core.specs.Spans.{once_each, top_kinds}
use Rattle.dsdiff_core.specs.Held.{held}
use Rattle.dsdiff_core.proofs.once.refuse_second_in_form.Given as goal

abbrev pub invariant-loop-i : goal.invariant-loop-i
invariant-loop-i l = once_each (top_kinds (held l.file)) (take l.i l.top) (drop l.i l.top) ≡ once_each (top_kinds (held l.file)) [] l.top
