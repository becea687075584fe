use Rattle.std.proofs.Common.{◌≡◌, ◌++◌, take, map}
use Rattle.chunk_core.specs.Places.{span_chunk}
use Rattle.dsd_bits.specs.Contents.{other_content}
use Rattle.dsdiff_core.specs.Others.{kept}
use Rattle.dsdiff_core.specs.Held.{held}
use Rattle.dsdiff_core.proofs.others.push_kept.Given as goal

abbrev pub invariant-loop-span : goal.invariant-loop-span
invariant-loop-span l = map other_content l.others.items ≡ map other_content l.fn.others.items ++ kept l.place (map (span_chunk (held l.file)) (take l.span-index l.spans))
