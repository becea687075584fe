use Rattle.std.proofs.Common.{◌≡◌, [], drop, take}
use Rattle.dsdiff_core.specs.Spans.{once_each, property_kinds}
use Rattle.dsdiff_core.proofs.once.refuse_second_in_property.Given as goal

abbrev pub invariant-loop-i : goal.invariant-loop-i
invariant-loop-i l = once_each property_kinds (take l.i l.parts) (drop l.i l.parts) ≡ once_each property_kinds [] l.parts
