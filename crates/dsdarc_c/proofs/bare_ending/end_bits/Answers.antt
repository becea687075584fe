use Rattle.std.proofs.Common.{IfErr, ◌∙◌, subst, sym}
use Rattle.dsdarc_c.specs.BareCalls.{RefusesBareEnd}
use Rattle.dsdarc_c.proofs.EndingLaws.{never}
use Rattle.dsdarc_c.proofs.bare_ending.end_bits.Goals as goal

pub returns-in-Ok-true-clause-accepted : goal.returns-in-Ok-true-clause-accepted
returns-in-Ok-true-clause-accepted c file at = (c.in-Ok-true.ensures.closed file at).0 c.in-Ok-true.field-0-test

pub returns-in-Ok-false-clause-refused : goal.returns-in-Ok-false-clause-refused
returns-in-Ok-false-clause-refused c =
    subst (λ r. IfErr r (RefusesBareEnd c.args.p.now)) (sym c.fail.ensures.refused) (λ file at r holds.
    never (sym c.in-Ok-false.field-0-test ∙ (c.in-Ok-false.ensures.closed file at).1 (r, holds)))
