use Rattle.std.proofs.Common.{refl}
use Rattle.null_core.proofs.StretchLaws.{join_earlier, join_later}
use Rattle.null_core.proofs.joining.joined.Goals as goal

pub returns-then-next-last : goal.returns-then-next-last
returns-then-next-last c = record { first = refl; last = refl; stretch = λ a bits are. join_later a bits c.args.last c.args.next are c.if-next-last.true }

pub returns-else-next-last : goal.returns-else-next-last
returns-else-next-last c = record { first = refl; last = refl; stretch = λ a bits are. join_earlier a bits c.args.last c.args.next are c.if-next-last.false }
