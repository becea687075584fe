use Rattle.std.proofs.Common.{◌≡◌, map, take}
use Rattle.std.specs.List.{range_with_len, sum_by}
use Rattle.cut_core.specs.Cuts.{span}
use Rattle.judge_core.specs.Auditing.{bridge_range}
use Rattle.judge_core.proofs.ranges.bridge_ranges.Given as goal

abbrev pub invariant-loop-i : goal.invariant-loop-i
invariant-loop-i l = record {
  ranges : l.ranges.items ≡ map (bridge_range l.cut) (range_with_len 0 l.i);
  place : l.place ≡ sum_by span (take l.i l.cut.splice.cues);
}
