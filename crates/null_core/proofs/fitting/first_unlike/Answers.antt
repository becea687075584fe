use Rattle.std.proofs.Common.{refl}
use Rattle.null_core.proofs.fitting.first_unlike.Goals as goal

pub returns-then-not-is_like_first : goal.returns-then-not-is_like_first
returns-then-not-is_like_first c = record {
  here = record { there = c.loop-number-test.true; unlike = c.if-not-is_like_first.ensures.no refl };
  before = λ earlier lt is. is.unlike (c.loop-number.invariant earlier lt);
}
