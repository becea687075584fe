use Rattle.std.proofs.Common.{◌≡◌}
use Rattle.dsdiff_core.specs.Fields.{ids_in}
use Rattle.dsdiff_core.proofs.property.read_ids.Given as goal

abbrev pub invariant-loop-k : goal.invariant-loop-k
invariant-loop-k l = l.ids.items ≡ ids_in l.k l.bytes
