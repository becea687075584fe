use Rattle.std.proofs.Common.{All, ap, arith, subst, sym}
use Rattle.std.proofs.lemmas.Grind.{common_steps}
use Rattle.std.proofs.lemmas.Result.{err_from_is_err_and}
use Rattle.wave_core.specs.Contents.{IsSample, WaveSpec}
use Rattle.wave_core.proofs.FaultLaws.{made_stated, memory_stated}
use Rattle.wave_core.proofs.JoinLaws.{sized_text_holds}
use Rattle.wave_core.proofs.writing.write.Goals as goal

pub returns-in_default-clause-too_large : goal.returns-in_default-clause-too_large
returns-in_default-clause-too_large c = grind (arith, common_steps)

pub returns-in_err-out : goal.returns-in_err-out
returns-in_err-out c =
    let stated = c.from_residual.ensures.1 in
    let e = err_from_is_err_and c.from_residual.result stated in
    record {
      text = rw e.1 tt;
      too_large = memory_stated c.from_residual.result _ stated (sized_text_holds c.args.pcm.now _ c.in-Some.sizes.riff_size c.len.result c.from.result c.spec.inside.channels c.pcm.view_is (omega arith) c.from.ensures (ap (λ (s : WaveSpec). s.channels) c.spec.view_is) c.in-Some.ensures.riff_size (omega arith));
    }

pub returns-in_err-push_fields : goal.returns-in_err-push_fields
returns-in_err-push_fields c =
    let stated = c.from_residual-in_err-push_fields.ensures.1 in
    let e = err_from_is_err_and c.from_residual-in_err-push_fields.result stated in
    record {
      text = rw e.1 tt;
      too_large = memory_stated c.from_residual-in_err-push_fields.result _ stated (sized_text_holds c.args.pcm.now _ c.in-Some.sizes.riff_size c.len.result c.from.result c.spec.inside.channels c.pcm.view_is (omega arith) c.from.ensures (ap (λ (s : WaveSpec). s.channels) c.spec.view_is) c.in-Some.ensures.riff_size (omega arith));
    }

pub returns-in_err-push_samples : goal.returns-in_err-push_samples
returns-in_err-push_samples c =
    let stated = c.from_residual-in_err-push_samples.ensures.1 in
    let e = err_from_is_err_and c.from_residual-in_err-push_samples.result stated in
    record {
      text = rw e.1 tt;
      too_large = memory_stated c.from_residual-in_err-push_samples.result _ stated (sized_text_holds c.args.pcm.now _ c.in-Some.sizes.riff_size c.len.result c.from.result c.spec.inside.channels c.pcm.view_is (omega arith) c.from.ensures (ap (λ (s : WaveSpec). s.channels) c.spec.view_is) c.in-Some.ensures.riff_size (omega arith));
    }

pub returns-in_err-push_pad : goal.returns-in_err-push_pad
returns-in_err-push_pad c =
    let stated = c.from_residual-in_err-push_pad.ensures.1 in
    let e = err_from_is_err_and c.from_residual-in_err-push_pad.result stated in
    record {
      text = rw e.1 tt;
      too_large = memory_stated c.from_residual-in_err-push_pad.result _ stated (sized_text_holds c.args.pcm.now _ c.in-Some.sizes.riff_size c.len.result c.from.result c.spec.inside.channels c.pcm.view_is (omega arith) c.from.ensures (ap (λ (s : WaveSpec). s.channels) c.spec.view_is) c.in-Some.ensures.riff_size (omega arith));
    }

pub push_samples-requires-clause-values : goal.push_samples-requires-clause-values
push_samples-requires-clause-values c =
    let width = ap (λ (s : WaveSpec). s.width) (sym c.spec.view_is) in
    rw c.deref.ensures.value (subst (λ w. All (IsSample w) c.pcm.inside.samples.items) width c.pcm.invariant.in_range)

pub returns-clause-too_large : goal.returns-clause-too_large
returns-clause-too_large c =
    made_stated c.push_pad.new.out _ (sized_text_holds c.args.pcm.now _ c.in-Some.sizes.riff_size c.len.result c.from.result c.spec.inside.channels c.pcm.view_is (omega arith) c.from.ensures (ap (λ (s : WaveSpec). s.channels) c.spec.view_is) c.in-Some.ensures.riff_size (omega arith))
