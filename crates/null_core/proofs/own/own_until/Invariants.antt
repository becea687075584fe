use Rattle.std.proofs.Common.{◌-◌, ◌≤◌, map}
use Rattle.null_core.specs.Parts.{part_content}
use Rattle.null_core.specs.Walks.{AreOwn}
use Rattle.null_core.proofs.own.own_until.Given as goal

abbrev pub invariant-loop-until : goal.invariant-loop-until
invariant-loop-until l = record {
  after : l.from ≤ l.until;
  inside : l.until ≤ l.high;
  same : AreOwn (map part_content l.parts) l.bits l.source.take l.source.ahead l.from l.until;
}

abbrev pub decreases-loop-until : goal.decreases-loop-until
decreases-loop-until l = l.high - l.until
