use Rattle.std.proofs.Common.{arith, refl, sym}
use Rattle.std.proofs.lemmas.Grind.{common_steps}
use Rattle.judge_core.proofs.comparing.outer_reason.Goals as goal

pub returns : goal.returns
returns c = record { shape = rw (sym c.first.ensures) (c.if-differ.ensures.alike refl); long = omega (arith, c.if-count-wanted.false, c.length-wanted.ensures.value); titled = grind (arith, common_steps) }
