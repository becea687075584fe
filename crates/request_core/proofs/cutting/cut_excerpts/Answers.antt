use Rattle.std.proofs.Common.{refl}
use Rattle.std.proofs.lemmas.Result.{err_from_is_err_and}
use Rattle.request_core.proofs.CuttingLaws.{excerpted_fails, excerpted_gives, excerpted_says}
use Rattle.request_core.proofs.cutting.cut_excerpts.Goals as goal

pub returns-in_err-of-clause-exact : goal.returns-in_err-of-clause-exact
returns-in_err-of-clause-exact c = λ project files are.
    let p = err_from_is_err_and c.from_residual.result c.from_residual.ensures.1 in
    rw (p.1, p.2) (excerpted_fails project files c.args.splice c.args.takes.items c.args.form are c.in_err-of.field-0.0 (c.in_err-of.ensures.exact are.whole are.excerpts))

pub returns-clause-exact : goal.returns-clause-exact
returns-clause-exact c = λ project files are. excerpted_gives project files c.args.splice c.args.takes.items c.args.form are c.in_ok-of.field-0 (c.in_ok-of.ensures.exact are.whole are.excerpts)

pub returns-clause-found : goal.returns-clause-found
returns-clause-found c = λ project files are. excerpted_says project files c.args.splice c.args.takes.items c.args.form are c.in_ok-of.field-0 (c.in_ok-of.ensures.exact are.whole are.excerpts)

pub returns-in_err-of-clause-fault : goal.returns-in_err-of-clause-fault
returns-in_err-of-clause-fault c =
    let p = err_from_is_err_and c.from_residual.result c.from_residual.ensures.1 in
    rw (p.1, p.2) (c.in_err-of.field-0.0, refl)
