use Rattle.std.proofs.Common.{◌≡◌, ◌++◌, flat_map, map, take}
use Rattle.chunk_core.specs.Chunks.{spell}
use Rattle.dsd_bits.specs.Contents.{other_content}
use Rattle.dsdiff_core.specs.Writing.{others_of}
use Rattle.dsdiff_core.proofs.writing.push_others.Given as goal

abbrev pub invariant-loop-other : goal.invariant-loop-other
invariant-loop-other l = l.out.items ≡ l.fn.out.items ++ flat_map spell (others_of l.place (map other_content (take l.other-index l.others)))
