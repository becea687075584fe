use Rattle.std.proofs.Common.{◌≡◌, ◌<◌, ◌^◌, take, map, length}
use Rattle.std.specs.Prelude.{All}
use Rattle.dsd_bits.specs.Contents.{mark_content}
use Rattle.dsdiff_core.specs.Reading.{marks_of}
use Rattle.dsdiff_core.specs.Held.{held}
use Rattle.dsdiff_core.proofs.marks.read_marks.Given as goal

abbrev pub invariant-loop-span : goal.invariant-loop-span
invariant-loop-span l = record {
  marks : map mark_content l.marks.items ≡ marks_of (held l.file) (take l.span-index l.inner);
  short : All (λ mark. length mark.text.items < 2 ^ 32) l.marks.items;
}
