use Rattle.std.proofs.Common.{arith}
use Rattle.null_core.specs.Parts.{part_content}
use Rattle.null_core.proofs.AloneLaws.{after_part, before_part, within_part}
use Rattle.null_core.proofs.alone.part_heard.Goals as goal

pub returns-then-m-part : goal.returns-then-m-part
returns-then-m-part c = before_part (part_content c.args.part.now) c.args.m c.if-m-part.true

pub returns-then-end-m : goal.returns-then-end-m
returns-then-end-m c = after_part (part_content c.args.part.now) c.args.m _ c.if-end-m.true c.requires

pub returns : goal.returns
returns c =
    let part = part_content c.args.part.now in
    let kept = c.level_until.ensures in
    within_part part c.args.m c.line_at-line.result c.level_of-level.result c.level_until.result c.if-m-part.false c.line_at-line.ensures.gains c.line_at-line.ensures.place kept c.heard_at.result c.min.result c.heard_at.ensures
    (omega (arith, c.min.ensures, c.if-end-m.false, kept.some)) (omega (arith, c.min.ensures)) (omega (arith, c.min.ensures))
