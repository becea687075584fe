use Rattle.std.proofs.Common.{◌∙◌, refl, sym, subst}
use Rattle.dsd_bits.specs.Ids.{DSD}
use Rattle.dsdiff_core.specs.Held.{MayBeInMemory, held}
use Rattle.dsdiff_core.specs.Spans.{span_has}
use Rattle.dsdiff_core.specs.Steps.{Fails}
use Rattle.dsdiff_core.proofs.ExitLaws.{fault_at}
use Rattle.dsdiff_core.proofs.HeldLaws.{may_long}
use Rattle.dsdiff_core.proofs.JoinedSteps.{step_then}
use Rattle.dsdiff_core.proofs.SoundLaws.{count_is}
use Rattle.dsdiff_core.proofs.SpanLaws.{found_holds}
use Rattle.dsdiff_core.proofs.Steps.{step_fails}
use Rattle.dsdiff_core.proofs.sound.count_sound.Goals as goal

pub returns-in_err-check_frames-clause-exact : goal.returns-in_err-check_frames-clause-exact
returns-in_err-check_frames-clause-exact c =
    let found = sym c.first_with.ensures ∙ c.in-Some.is in
    let may = found_holds (MayBeInMemory c.args.file) (span_has DSD) c.args.top.now c.in-Some.span c.requires.inside found in
    let is = count_is (held c.args.file) c.args.top.now c.args.number c.in-Some.span found (sym c.leads.ensures ∙ c.if-leads.false) (may_long c.args.file c.in-Some.span may) in
    fault_at _ _ c.from_residual.result _ c.from_residual.ensures.1 (subst (Fails c.in_err-check_frames.field-0.0) (sym is) (step_fails c.in_err-check_frames.field-0.0 _ _ c.in_err-check_frames.ensures))

pub returns-clause-exact : goal.returns-clause-exact
returns-clause-exact c =
    let found = sym c.first_with.ensures ∙ c.in-Some.is in
    let may = found_holds (MayBeInMemory c.args.file) (span_has DSD) c.args.top.now c.in-Some.span c.requires.inside found in
    count_is (held c.args.file) c.args.top.now c.args.number c.in-Some.span found (sym c.leads.ensures ∙ c.if-leads.false) (may_long c.args.file c.in-Some.span may) ∙ step_then _ _ _ _ c.in_ok-check_frames.ensures refl
