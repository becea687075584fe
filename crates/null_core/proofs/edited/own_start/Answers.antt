use Rattle.std.proofs.Common.{map}
use Rattle.null_core.specs.Parts.{part_content}
use Rattle.null_core.proofs.EditLaws.{start_end, start_none, start_own, start_past}
use Rattle.null_core.proofs.edited.own_start.Goals as goal

pub returns-then-past-low : goal.returns-then-past-low
returns-then-past-low c = start_past (map part_content c.args.parts.now) c.args.bits.now c.args.low c.args.high c.requires.in_order c.requires.inside c.past_others-past.result c.past_others-past.ensures c.if-past-low.true

pub returns-in-Some : goal.returns-in-Some
returns-in-Some c = start_own (map part_content c.args.parts.now) c.args.bits.now c.args.low c.args.high c.requires.in_order c.requires.inside c.own_run-run.result c.own_run-run.ensures c.in-Some.field-0 c.in-Some.is c.if-run-high.true

pub returns-in-Some-2 : goal.returns-in-Some-2
returns-in-Some-2 c = start_end (map part_content c.args.parts.now) c.args.bits.now c.args.low c.args.high c.requires.in_order c.requires.inside c.own_run-run.result c.own_run-run.ensures c.in-Some-2.field-0 c.in-Some-2.is c.if-run-high.false

pub returns-in-None : goal.returns-in-None
returns-in-None c = start_none (map part_content c.args.parts.now) c.args.bits.now c.args.low c.args.high c.requires.in_order c.requires.inside c.own_run-run.result c.own_run-run.ensures c.in-None.is
