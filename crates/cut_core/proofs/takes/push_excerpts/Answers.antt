use Rattle.std.proofs.Common.{inl, length, refl, subst}
use Rattle.std.proofs.lemmas.Result.{err_from_is_err_and}
use Rattle.cut_core.specs.Opening.{ReturnsExcerpts, ReturnsAllExcerpts, IsOfTake, IsOfTakes, take_in, takes_before}
use Rattle.cut_core.proofs.ExcerptLaws.{none_more, not_more, of_more, one_more}
use Rattle.cut_core.proofs.takes.push_excerpts.Goals as goal

pub returns-in_err-takes-clause-excerpts : goal.returns-in_err-takes-clause-excerpts
returns-in_err-takes-clause-excerpts c = λ splice files file before next.
    let p = err_from_is_err_and c.from_residual.result c.from_residual.ensures.1 in
    rw (p.1, p.2) (none_more splice files file c.in_err-takes.field-0.0 (subst (λ t. ReturnsAllExcerpts splice t (takes_before files (length files))) c.in_err-takes.was before))

pub returns-in_err-next-clause-excerpts : goal.returns-in_err-next-clause-excerpts
returns-in_err-next-clause-excerpts c = λ splice files file before next.
    let p = err_from_is_err_and c.from_residual-in_err-next.result c.from_residual-in_err-next.ensures.1 in
    rw (p.1, p.2) (not_more splice files file c.in_ok-takes.takes.items c.in_err-next.field-0.0 (subst (λ t. ReturnsAllExcerpts splice t (takes_before files (length files))) c.in_ok-takes.was before) (subst (λ t. ReturnsExcerpts splice (length files) t (take_in (length files) file)) c.in_err-next.was next))

pub returns-in-Ok : goal.returns-in-Ok
returns-in-Ok c = record {
  excerpts = λ splice files file before next.
      one_more splice files file c.in_ok-takes.takes.items c.push.new.self.items c.in_ok-next.field-0 c.in-Ok.ensures.items (subst (λ t. ReturnsAllExcerpts splice t (takes_before files (length files))) c.in_ok-takes.was before) (subst (λ t. ReturnsExcerpts splice (length files) t (take_in (length files) file)) c.in_ok-next.was next);
  of = λ splice n before next.
      of_more splice n c.in_ok-takes.takes.items c.push.new.self.items c.in_ok-next.field-0 c.in-Ok.ensures.items (subst (λ t. IsOfTakes splice n t) c.in_ok-takes.was before) (subst (λ t. IsOfTake splice n t) c.in_ok-next.was next);
}

pub returns-in-Err-clause-excerpts : goal.returns-in-Err-clause-excerpts
returns-in-Err-clause-excerpts c = λ splice files file before next. inl refl
