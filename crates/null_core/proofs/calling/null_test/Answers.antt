use Rattle.std.proofs.Common.{IfErr, subst, sym}
use Rattle.std.proofs.lemmas.Result.{err_from_is_err_and, IfErr-weaker, IfOk-weaker}
use Rattle.dsd_bits.proofs.ExitLaws.{no_value}
use Rattle.cut_core.specs.Opening.{file_bytes}
use Rattle.null_core.specs.Calling.{IsNullFault, NullTests}
use Rattle.null_core.proofs.CallingLaws.{accepted_nulls, answers_accepted, tests_from}
use Rattle.null_core.proofs.calling.null_test.Goals as goal

pub returns-in_err-mixed : goal.returns-in_err-mixed
returns-in_err-mixed c =
    let text = c.args.mix.now in
    let files = file_bytes c.args.takes.now in
    let master = c.args.master.now in
    let result = c.from_residual.result in
    let p = err_from_is_err_and result c.from_residual.ensures.1 in
    let found = no_value _ (NullTests text files master) result c.from_residual.ensures.1 in
    let refused : IfErr result (IsNullFault text files) = rw (p.1, p.2) c.in_err-mixed.ensures.refused in
    record {
      found = found;
      accepted = accepted_nulls text files master result found;
      only = answers_accepted text files master result found refused;
      refused = refused;
    }

pub returns : goal.returns
returns c =
    let text = c.args.mix.now in
    let files = file_bytes c.args.takes.now in
    let master = c.args.master.now in
    let result = c.judge_file.result in
    let found = IfOk-weaker result _ (NullTests text files master) (tests_from text files master c.in_ok-mixed.mixed c.in_ok-mixed.ensures.made) c.judge_file.ensures.found in
    let refused = IfErr-weaker result _ (IsNullFault text files) (λ fault is. subst (IsNullFault text files) (sym is) tt) c.judge_file.ensures.memory in
    record {
      found = found;
      accepted = accepted_nulls text files master result found;
      only = answers_accepted text files master result found refused;
      refused = refused;
    }
