use Rattle.std.proofs.Common.{◌≡◌, [], Ok, ap, map, refl, subst, sym, ◌∙◌, arith}
use Rattle.dsd_bits.proofs.ExitLaws.{no_value}
use Rattle.chunk_core.specs.Places.{span_chunk}
use Rattle.dsdiff_core.specs.Forms.{known_version}
use Rattle.dsdiff_core.specs.Headers.{leading_of}
use Rattle.dsdiff_core.specs.Spans.{once_each, top_kinds}
use Rattle.dsdiff_core.specs.Steps.{Fails, chunk_fault, walked}
use Rattle.dsdiff_core.proofs.ExitLaws.{fault_at}
use Rattle.dsdiff_core.proofs.HeldLaws.{lead_may, prefix_spans}
use Rattle.dsdiff_core.proofs.JoinedSteps.{step_then, fails_then, walk_fails}
use Rattle.dsdiff_core.proofs.Steps.{step_fails}
use Rattle.dsdiff_core.specs.Held.{held}
use Rattle.dsdiff_core.proofs.form.leading_chunks.Goals as goal

pub walk-requires : goal.walk-requires
walk-requires c = c.requires

pub returns-in_err-top-clause-exact : goal.returns-in_err-top-clause-exact
unfolding leading_of
returns-in_err-top-clause-exact c =
    fault_at _ _ c.from_residual.result _ c.from_residual.ensures.1 (step_fails _ _ _ (subst (λ r. Fails (chunk_fault c.in_err-top.field-0.0) (walked r)) (sym (prefix_spans c.args.prefix c.args.at c.requires.0 c.requires.1)) (walk_fails c.in_err-top.field-0.0 _ c.in_err-top.ensures.exact)))

pub returns-in_err-top-clause-inside : goal.returns-in_err-top-clause-inside
returns-in_err-top-clause-inside c = no_value _ _ c.from_residual.result c.from_residual.ensures.1

pub require_version-requires : goal.require_version-requires
require_version-requires c = rw c.deref.ensures.value (lead_may c.args.prefix c.args.at _ (omega (arith, c.ranges.at.fits)) c.requires.1 c.in_ok-top.ensures.inside)

pub returns-in_err-require_version-clause-exact : goal.returns-in_err-require_version-clause-exact
unfolding leading_of
returns-in_err-require_version-clause-exact c =
    fault_at _ _ c.from_residual-in_err-require_version.result _ c.from_residual-in_err-require_version.ensures.1 (fails_then _ _ _ _ (ap walked (prefix_spans c.args.prefix c.args.at c.requires.0 c.requires.1 ∙ c.in_ok-top.ensures.exact)) (step_fails c.in_err-require_version.field-0.0 _ _ (subst (λ top. Fails c.in_err-require_version.field-0.0 (known_version (map (span_chunk (held c.args.prefix)) top))) c.deref.ensures.value c.in_err-require_version.ensures)))

pub returns-in_err-require_version-clause-inside : goal.returns-in_err-require_version-clause-inside
returns-in_err-require_version-clause-inside c = no_value _ _ c.from_residual-in_err-require_version.result c.from_residual-in_err-require_version.ensures.1

pub refuse_second_in_form-requires : goal.refuse_second_in_form-requires
refuse_second_in_form-requires c = rw c.deref-2.ensures.value (lead_may c.args.prefix c.args.at _ (omega (arith, c.ranges.at.fits)) c.requires.1 c.in_ok-top.ensures.inside)

pub returns-in_err-refuse_second_in_form-clause-exact : goal.returns-in_err-refuse_second_in_form-clause-exact
unfolding leading_of
returns-in_err-refuse_second_in_form-clause-exact c =
    fault_at _ _ c.from_residual-in_err-refuse_second_in_form.result _ c.from_residual-in_err-refuse_second_in_form.ensures.1 (fails_then _ _ _ _ (ap walked (prefix_spans c.args.prefix c.args.at c.requires.0 c.requires.1 ∙ c.in_ok-top.ensures.exact)) (fails_then _ _ _ _ (subst (λ top. known_version (map (span_chunk (held c.args.prefix)) top) ≡ Ok tt) c.deref.ensures.value c.in_ok-require_version.ensures) (step_fails c.in_err-refuse_second_in_form.field-0.0 _ _ (subst (λ top. Fails c.in_err-refuse_second_in_form.field-0.0 (once_each (top_kinds (held c.args.prefix)) [] top)) c.deref-2.ensures.value c.in_err-refuse_second_in_form.ensures))))

pub returns-in_err-refuse_second_in_form-clause-inside : goal.returns-in_err-refuse_second_in_form-clause-inside
returns-in_err-refuse_second_in_form-clause-inside c =
    no_value _ _ c.from_residual-in_err-refuse_second_in_form.result c.from_residual-in_err-refuse_second_in_form.ensures.1

pub returns-clause-exact : goal.returns-clause-exact
unfolding leading_of
returns-clause-exact c =
    step_then _ _ _ _ (ap walked (prefix_spans c.args.prefix c.args.at c.requires.0 c.requires.1 ∙ c.in_ok-top.ensures.exact)) (step_then _ _ _ _ (subst (λ top. known_version (map (span_chunk (held c.args.prefix)) top) ≡ Ok tt) c.deref.ensures.value c.in_ok-require_version.ensures) (step_then _ _ _ _ (subst (λ top. once_each (top_kinds (held c.args.prefix)) [] top ≡ Ok tt) c.deref-2.ensures.value c.in_ok-refuse_second_in_form.ensures) refl))

pub returns-clause-inside : goal.returns-clause-inside
returns-clause-inside c = lead_may c.args.prefix c.args.at _ (omega (arith, c.ranges.at.fits)) c.requires.1 c.in_ok-top.ensures.inside
