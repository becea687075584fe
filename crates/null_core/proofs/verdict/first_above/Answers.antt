use Rattle.std.proofs.Common.{◌≤◌, All, arith, subst}
use Rattle.std.proofs.lemmas.List.{take_all}
use Rattle.std.proofs.lemmas.List.Elements.{All-more}
use Rattle.null_core.specs.declared.stretch.Stretch.{Stretch}
use Rattle.null_core.proofs.verdict.first_above.Goals as goal

pub loop-number-preserved : goal.loop-number-preserved
loop-number-preserved c = All-more (λ (s : Stretch). s.residual ≤ c.args.limit) c.args.stretches.now c.loop-number.number (record { first = 0; last = 0; residual = 0; place = 0 }) c.loop-number-test.true c.loop-number.invariant (omega (arith, c.if-stretches-number.false))

pub returns-clause-none : goal.returns-clause-none
returns-clause-none c none = subst (All (λ (s : Stretch). s.residual ≤ c.args.limit)) (take_all c.loop-number.number c.args.stretches.now (omega (arith, c.loop-number-test.false))) c.loop-number.invariant
