use Rattle.std.proofs.Common.{◌≡◌, ℕ, Result, Ok, subst, sym, ap₂, ◌∙◌, arith}
use Rattle.std.proofs.lemmas.Result.{err_from_is_err_and}
use Rattle.dsd_bits.specs.declared.sound.Sound.{Sound}
use Rattle.dsdiff_core.specs.declared.fault.DsdiffFault.{DsdiffFault}
use Rattle.dsdiff_core.specs.Headers.{frames_fit, size_at, sound_of_fields, sound_with_head}
use Rattle.dsdiff_core.specs.Properties.{property_of, stated_of}
use Rattle.dsdiff_core.specs.Steps.{Fails}
use Rattle.dsdiff_core.proofs.HeldLaws.{size_held}
use Rattle.dsdiff_core.proofs.JoinedSteps.{fails_then, step_then}
use Rattle.dsdiff_core.proofs.Steps.{step_fails}
use Rattle.dsdiff_core.proofs.ExitLaws.{fault_at}
use Rattle.dsdiff_core.specs.Held.{held}
use Rattle.dsdiff_core.proofs.header.read_sound.Goals as goal

pub returns-in_err-top : goal.returns-in_err-top
unfolding sound_with_head
returns-in_err-top c =
    let e = err_from_is_err_and c.from_residual.result c.from_residual.ensures.1 in
    rw (e.1, e.2) (step_fails c.in_err-top.field-0.0 _ _ c.in_err-top.ensures.exact)

pub returns-in_err-stated : goal.returns-in_err-stated
unfolding sound_with_head
returns-in_err-stated c =
    let e = err_from_is_err_and c.from_residual-in_err-stated.result c.from_residual-in_err-stated.ensures.1 in
    rw (e.1, e.2) (fails_then _ _ _ _ c.in_ok-top.ensures.exact (step_fails c.in_err-stated.field-0.0 _ _ (subst (λ top. Fails c.in_err-stated.field-0.0 (property_of (held c.args.prefix) top)) c.deref.ensures.value c.in_err-stated.ensures.exact)))

pub leading_chunks-requires : goal.leading_chunks-requires
leading_chunks-requires c = (c.requires.from, omega (arith, c.requires.whole))

pub read_property-requires : goal.read_property-requires
read_property-requires c = rw c.deref.ensures.value c.in_ok-top.ensures.inside

pub returns-in_default : goal.returns-in_default
returns-in_default c = absurd (omega (arith, c.in_default.ensures, c.requires.whole))

pub returns-in_err-check_frames : goal.returns-in_err-check_frames
unfolding sound_with_head
returns-in_err-check_frames c =
    let long = c.len-number.ensures ∙ c.in_ok-stated.stated.ids.ok.0 in
    fault_at _ _ c.from_residual-in_err-check_frames.result _ c.from_residual-in_err-check_frames.ensures.1 (fails_then _ _ _ _ c.in_ok-top.ensures.exact (fails_then _ _ _ _ (subst (λ top. property_of (held c.args.prefix) top ≡ Ok (stated_of c.in_ok-stated.stated)) c.deref.ensures.value c.in_ok-stated.ensures.exact) (step_fails c.in_err-check_frames.field-0.0 _ _ (subst (λ n. Fails c.in_err-check_frames.field-0.0 (frames_fit (size_at (held c.args.prefix) c.args.at) n)) long (subst (λ n. Fails c.in_err-check_frames.field-0.0 (frames_fit n c.len-number.result)) (c.in-Some.ensures.size ∙ sym (size_held c.args.prefix c.args.at c.requires.whole)) c.in_err-check_frames.ensures)))))

pub returns : goal.returns
unfolding sound_with_head
returns c =
    let stated = c.in_ok-stated.stated in
    let long = c.len-number.ensures ∙ stated.ids.ok.0 in
    let frames = subst (λ n. frames_fit (size_at (held c.args.prefix) c.args.at) n ≡ Ok tt) long (subst (λ n. frames_fit n c.len-number.result ≡ Ok tt) (c.in-Some.ensures.size ∙ sym (size_held c.args.prefix c.args.at c.requires.whole)) c.in_ok-check_frames.ensures) in
    step_then _ _ _ _ c.in_ok-top.ensures.exact (step_then _ _ _ _ (subst (λ top. property_of (held c.args.prefix) top ≡ Ok (stated_of stated)) c.deref.ensures.value c.in_ok-stated.ensures.exact) (step_then _ _ _ _ frames (ap₂ (λ (n size : ℕ). let r : Result Sound DsdiffFault = Ok (sound_of_fields stated.rate n c.args.at size) in r) (sym long) (sym (c.in-Some.ensures.size ∙ sym (size_held c.args.prefix c.args.at c.requires.whole))))))
