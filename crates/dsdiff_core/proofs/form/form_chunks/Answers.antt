use Rattle.std.proofs.Common.{◌≡◌, [], Ok, map, refl, subst}
use Rattle.std.proofs.lemmas.Result.{err_from_is_err_and}
use Rattle.dsd_bits.proofs.ExitLaws.{no_value}
use Rattle.chunk_core.specs.Places.{span_chunk}
use Rattle.dsdiff_core.specs.Forms.{top_of, known_version}
use Rattle.dsdiff_core.specs.Spans.{once_each, top_kinds}
use Rattle.dsdiff_core.specs.Steps.{Fails}
use Rattle.dsdiff_core.proofs.JoinedSteps.{step_then, fails_then}
use Rattle.dsdiff_core.proofs.Steps.{step_fails}
use Rattle.dsdiff_core.specs.Held.{held}
use Rattle.dsdiff_core.proofs.form.form_chunks.Goals as goal

pub returns-in_err-end-clause-exact : goal.returns-in_err-end-clause-exact
unfolding top_of
returns-in_err-end-clause-exact c =
    let e = err_from_is_err_and c.from_residual.result c.from_residual.ensures.1 in
    rw (e.1, e.2) (step_fails c.in_err-end.field-0.0 _ _ c.in_err-end.ensures.exact)

pub returns-in_err-end-clause-inside : goal.returns-in_err-end-clause-inside
returns-in_err-end-clause-inside c = no_value _ _ c.from_residual.result c.from_residual.ensures.1

pub returns-in_err-top-clause-exact : goal.returns-in_err-top-clause-exact
unfolding top_of
returns-in_err-top-clause-exact c =
    let e = err_from_is_err_and c.from_residual-in_err-top.result c.from_residual-in_err-top.ensures.1 in
    rw (e.1, e.2) (fails_then _ _ _ _ c.in_ok-end.ensures.exact (step_fails c.in_err-top.field-0.0 _ _ c.in_err-top.ensures.exact))

pub returns-in_err-top-clause-inside : goal.returns-in_err-top-clause-inside
returns-in_err-top-clause-inside c = no_value _ _ c.from_residual-in_err-top.result c.from_residual-in_err-top.ensures.1

pub returns-in_err-require_version-clause-exact : goal.returns-in_err-require_version-clause-exact
unfolding top_of
returns-in_err-require_version-clause-exact c =
    let e = err_from_is_err_and c.from_residual-in_err-require_version.result c.from_residual-in_err-require_version.ensures.1 in
    rw (e.1, e.2) (fails_then _ _ _ _ c.in_ok-end.ensures.exact (fails_then _ _ _ _ c.in_ok-top.ensures.exact (step_fails c.in_err-require_version.field-0.0 _ _ (subst (λ top. Fails c.in_err-require_version.field-0.0 (known_version (map (span_chunk (held c.args.file)) top))) c.deref.ensures.value c.in_err-require_version.ensures))))

pub returns-in_err-require_version-clause-inside : goal.returns-in_err-require_version-clause-inside
returns-in_err-require_version-clause-inside c = no_value _ _ c.from_residual-in_err-require_version.result c.from_residual-in_err-require_version.ensures.1

pub returns-in_err-refuse_second_in_form-clause-exact : goal.returns-in_err-refuse_second_in_form-clause-exact
unfolding top_of
returns-in_err-refuse_second_in_form-clause-exact c =
    let e = err_from_is_err_and c.from_residual-in_err-refuse_second_in_form.result c.from_residual-in_err-refuse_second_in_form.ensures.1 in
    let known = subst (λ top. known_version (map (span_chunk (held c.args.file)) top) ≡ Ok tt) c.deref.ensures.value c.in_ok-require_version.ensures in
    rw (e.1, e.2) (fails_then _ _ _ _ c.in_ok-end.ensures.exact (fails_then _ _ _ _ c.in_ok-top.ensures.exact (fails_then _ _ _ _ known (step_fails c.in_err-refuse_second_in_form.field-0.0 _ _ (subst (λ top. Fails c.in_err-refuse_second_in_form.field-0.0 (once_each (top_kinds (held c.args.file)) [] top)) c.deref-2.ensures.value c.in_err-refuse_second_in_form.ensures)))))

pub returns-in_err-refuse_second_in_form-clause-inside : goal.returns-in_err-refuse_second_in_form-clause-inside
returns-in_err-refuse_second_in_form-clause-inside c =
    no_value _ _ c.from_residual-in_err-refuse_second_in_form.result c.from_residual-in_err-refuse_second_in_form.ensures.1

pub returns-clause-exact : goal.returns-clause-exact
unfolding top_of
returns-clause-exact c =
    let known = subst (λ top. known_version (map (span_chunk (held c.args.file)) top) ≡ Ok tt) c.deref.ensures.value c.in_ok-require_version.ensures in
    let once = subst (λ top. once_each (top_kinds (held c.args.file)) [] top ≡ Ok tt) c.deref-2.ensures.value c.in_ok-refuse_second_in_form.ensures in
    step_then _ _ _ _ c.in_ok-end.ensures.exact (step_then _ _ _ _ c.in_ok-top.ensures.exact (step_then _ _ _ _ known (step_then _ _ _ _ once refl)))

pub require_version-requires : goal.require_version-requires
require_version-requires c = rw c.deref.ensures.value c.in_ok-top.ensures.inside

pub refuse_second_in_form-requires : goal.refuse_second_in_form-requires
refuse_second_in_form-requires c = rw c.deref-2.ensures.value c.in_ok-top.ensures.inside

pub returns-clause-inside : goal.returns-clause-inside
returns-clause-inside c = c.in_ok-top.ensures.inside
