use Rattle.std.proofs.Common.{◌≡◌, ◌++◌, drop, map, take}
use Rattle.std.specs.List.{sum_by}
use Rattle.dsd_bits.specs.Contents.{mark_content}
use Rattle.splice_core.specs.Splices.{splice_content}
use Rattle.cut_core.specs.Cuts.{span}
use Rattle.cut_core.specs.Titles.{titles, titles_from}
use Rattle.cut_core.proofs.titles.title_marks.Given as goal

abbrev pub invariant-loop-i : goal.invariant-loop-i
invariant-loop-i l = record {
  place : l.place ≡ sum_by span (take l.i (splice_content l.splice).cues);
  marked : map mark_content l.marks.items ++ titles_from l.rate l.place (drop l.i (splice_content l.splice).cues) ≡ titles l.rate (splice_content l.splice).cues;
}
