use Rattle.std.proofs.Common.{◌≡◌, drop}
use Rattle.std.specs.Prelude.{find}
use Rattle.dsdiff_core.specs.Spans.{span_has}
use Rattle.dsdiff_core.proofs.spans.first_with.Given as goal

abbrev pub invariant-loop-span : goal.invariant-loop-span
invariant-loop-span l = find (span_has l.id) (drop l.span-index l.spans) ≡ find (span_has l.id) l.spans
