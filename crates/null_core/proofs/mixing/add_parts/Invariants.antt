use Rattle.std.proofs.Common.{length, map}
use Rattle.null_core.specs.Parts.{part_content}
use Rattle.null_core.proofs.MixLaws.{IsMixOf}
use Rattle.null_core.proofs.mixing.add_parts.Given as goal

abbrev pub invariant-loop-part : goal.invariant-loop-part
invariant-loop-part l = IsMixOf (map part_content l.parts) l.part-index l.from (length l.fn.mixed) l.mixed
