use Rattle.std.proofs.Common.{◌≡◌, drop, map}
use Rattle.chunk_core.specs.Places.{span_chunk}
use Rattle.dsdiff_core.specs.Masters.{has_no_cut_mark}
use Rattle.dsdiff_core.specs.Held.{held}
use Rattle.dsdiff_core.proofs.masters.no_mark_is_cut.Given as goal

abbrev pub invariant-loop-span : goal.invariant-loop-span
invariant-loop-span l = has_no_cut_mark (map (span_chunk (held l.file)) (drop l.span-index l.spans)) ≡ has_no_cut_mark (map (span_chunk (held l.file)) l.spans)
