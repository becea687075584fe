use Rattle.std.proofs.Common.{◌≡◌, drop}
use Rattle.std.specs.Prelude.{find}
use Rattle.dsdiff_core.specs.Spans.{holds_property}
use Rattle.dsdiff_core.specs.Held.{held}
use Rattle.dsdiff_core.proofs.spans.first_sound_property.Given as goal

abbrev pub invariant-loop-span : goal.invariant-loop-span
invariant-loop-span l = find (holds_property (held l.file)) (drop l.span-index l.spans) ≡ find (holds_property (held l.file)) l.spans
