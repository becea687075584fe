use Rattle.std.proofs.Common.{IfErr, ◌∙◌, subst, sym}
use Rattle.dsdarc_c.specs.Ending.{RefusesEnd}
use Rattle.dsdarc_c.proofs.EndingLaws.{answered, never}
use Rattle.dsdarc_c.proofs.ending.end.Goals as goal

pub returns-in-Ok-true-clause-accepted : goal.returns-in-Ok-true-clause-accepted
returns-in-Ok-true-clause-accepted c =
    let p = c.args.p.now in
    record {
      before_fault = answered p c.is_closed.result c.in-Ok-true.field-0 c.in-Ok-true.is c.is_closed.ensures.after_fault;
      holds = λ file at. (c.in-Ok-true.ensures.closed file at).0 c.in-Ok-true.field-0-test;
    }

pub returns-in-Ok-false-clause-refused : goal.returns-in-Ok-false-clause-refused
returns-in-Ok-false-clause-refused c =
    let p = c.args.p.now in
    subst (λ r. IfErr r (RefusesEnd p)) (sym c.fail.ensures.refused) (
      answered p c.is_closed.result c.in-Ok-false.field-0 c.in-Ok-false.is c.is_closed.ensures.after_fault,
      λ file at r holds. never (sym c.in-Ok-false.field-0-test ∙ (c.in-Ok-false.ensures.closed file at).1 (r, holds)),
    )
