use Rattle.std.proofs.Common.{◌/◌, ◌^◌, ◌-◌}
use Rattle.std.proofs.lemmas.Bool.{ltb-true}
use Rattle.heard_core.proofs.BoundLaws.{below_by_less, below_by_more}
use Rattle.heard_core.proofs.bounds.is_below.Goals as goal

pub returns-then-a-b : goal.returns-then-a-b
returns-then-a-b c true m n in_a in_b =
    below_by_more c.args.a.high c.args.a.shift c.args.b.low c.args.b.shift c.min.result m n c.if-a-b.true c.min.ensures (ltb-true (c.args.a.high / 2 ^ c.min.result) c.args.b.low true) in_a.at_most in_b.at_least

pub returns-then-more-lt64 : goal.returns-then-more-lt64
returns-then-more-lt64 c true m n in_a in_b =
    below_by_less c.args.a.high c.args.a.shift c.args.b.low c.args.b.shift m n c.if-a-b.false (ltb-true c.args.a.high (c.args.b.low / 2 ^ (c.args.a.shift - c.args.b.shift)) true) in_a.at_most in_b.at_least
