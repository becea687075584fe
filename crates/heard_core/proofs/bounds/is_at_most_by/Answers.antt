use Rattle.std.proofs.Common.{arith, refl}
use Rattle.std.proofs.lemmas.Bool.{false≢true}
use Rattle.heard_core.proofs.BoundLaws.{first_known, second_known}
use Rattle.heard_core.proofs.bounds.is_at_most_by.Goals as goal

pub returns-then-is_below : goal.returns-then-is_below
returns-then-is_below c = λ m n in_a in_b. let below = c.is_below.ensures c.if-is_below.true m n (in_a (first_known c.args.a.are_known c.args.b.are_known c.if-not-are_known.false)) (in_b (second_known c.args.a.are_known c.args.b.are_known c.if-not-are_known.false)) in ((λ t. omega (arith, below)), (λ l. refl))

pub returns-then-is_below-2 : goal.returns-then-is_below-2
returns-then-is_below-2 c = λ m n in_a in_b. let above = c.is_below-2.ensures c.if-is_below-2.true n m (in_b (second_known c.args.a.are_known c.args.b.are_known c.if-not-are_known.false)) (in_a (first_known c.args.a.are_known c.args.b.are_known c.if-not-are_known.false)) in ((λ t. absurd (false≢true t)), (λ l. absurd (omega (arith, l, above))))
