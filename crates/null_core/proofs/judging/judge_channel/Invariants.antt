use Rattle.std.proofs.Common.{◌-◌, ◌≤◌, length}
use Rattle.null_core.specs.Judging.{IsJudgedTo}
use Rattle.null_core.specs.Parts.{asked_content}
use Rattle.null_core.proofs.judging.judge_channel.Given as goal

abbrev pub invariant-loop-span : goal.invariant-loop-span
invariant-loop-span g l = record {
  inside : l.from ≤ length l.bits;
  so_far : IsJudgedTo (asked_content l.asked) l.bits l.from l.stretches.items;
}

abbrev pub decreases-loop-span : goal.decreases-loop-span
decreases-loop-span g l = length l.bits - l.from
