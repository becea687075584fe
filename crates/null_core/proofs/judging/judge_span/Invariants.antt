use Rattle.std.proofs.Common.{◌≡◌, ◌-◌, ◌%◌, ◌≤◌, min}
use Rattle.null_core.specs.Judging.{IsJudgedTo}
use Rattle.null_core.specs.Parts.{asked_content}
use Rattle.null_core.proofs.judging.judge_span.Given as goal

abbrev pub invariant-loop-first : goal.invariant-loop-first
invariant-loop-first g l = record {
  due : l.first % l.asked.every ≡ 0;
  after : l.span.start ≤ l.first;
  so_far : IsJudgedTo (asked_content l.asked) l.compared.bits.now (min l.first l.span.stop) l.stretches.items;
}

abbrev pub decreases-loop-first : goal.decreases-loop-first
decreases-loop-first g l = l.span.stop - l.first
