use Rattle.std.proofs.Common.{◌+◌, ◌*◌}
use Rattle.heard_core.proofs.BoundLaws.{first_known, product_within, second_known}
use Rattle.heard_core.proofs.bounds.times.Goals as goal

pub returns-then-not-are_known : goal.returns-then-not-are_known
returns-then-not-are_known c m n in_a in_b = c.unknown.ensures (m * n)

pub returns : goal.returns
returns c m n in_a in_b =
    product_within c.args.a c.args.b c.shortened.result _ _ _ m n (λ i. c.from.ensures i * c.from-2.ensures i) (λ i. c.from-3.ensures i * c.from-4.ensures i) (λ i. c.from-5.ensures i + c.from-6.ensures i) (in_a (first_known c.args.a.are_known c.args.b.are_known c.if-not-are_known.false)) (in_b (second_known c.args.a.are_known c.args.b.are_known c.if-not-are_known.false))
    c.shortened.ensures
