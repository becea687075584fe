use Rattle.std.proofs.Common.{◌≡◌, flat_map, map, take}
use Rattle.chunk_core.specs.Chunks.{spell}
use Rattle.dsd_bits.specs.Contents.{mark_content}
use Rattle.dsdiff_core.specs.Writing.{mark_chunk}
use Rattle.dsdiff_core.proofs.writing.marks_data.Given as goal

abbrev pub invariant-loop-mark : goal.invariant-loop-mark
invariant-loop-mark l = l.out.items ≡ flat_map spell (map mark_chunk (map mark_content (take l.mark-index l.marks)))
