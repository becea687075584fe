use Rattle.std.proofs.Common.{length, subst}
use Rattle.std.proofs.lemmas.Result.{err_from_is_err_and}
use Rattle.null_core.specs.Calling.{ReadsTake}
use Rattle.null_commands.specs.Sources.{TakesIn}
use Rattle.null_commands.proofs.TakeLaws.{none_more, not_more, one_more}
use Rattle.null_commands.proofs.sources.push_take.Goals as goal

pub returns-in_err-takes : goal.returns-in_err-takes
returns-in_err-takes c = λ mix files file before next.
    let p = err_from_is_err_and c.from_residual.result c.from_residual.ensures.1 in
    rw (p.1, p.2) (none_more files file mix c.in_err-takes.field-0.0 (subst (TakesIn mix files) c.in_err-takes.was before))

pub returns-in_err-next : goal.returns-in_err-next
returns-in_err-next c = λ mix files file before next.
    let p = err_from_is_err_and c.from_residual-in_err-next.result c.from_residual-in_err-next.ensures.1 in
    rw (p.1, p.2) (not_more files file mix c.in_ok-takes.takes c.in_err-next.field-0.0 (subst (TakesIn mix files) c.in_ok-takes.was before) (subst (ReadsTake mix (length files) file) c.in_err-next.was next))

pub returns-in-Ok : goal.returns-in-Ok
returns-in-Ok c = λ mix files file before next.
    one_more files file mix c.in_ok-takes.takes c.push.new.self c.in_ok-next.field-0 c.in-Ok.ensures.items (subst (TakesIn mix files) c.in_ok-takes.was before) (subst (ReadsTake mix (length files) file) c.in_ok-next.was next)
