use Rattle.std.proofs.Common.{◌∙◌, inr, sym}
use Rattle.std.proofs.lemmas.Bool.{true≢false}
use Rattle.dsd_bits.proofs.ExitLaws.{no_value}
use Rattle.transfer_core.proofs.StreamLaws.{fault_is}
use Rattle.transfer_core.proofs.ReadingLaws.{file_refused, project_refused, rate_not_divided, samples_refused, text_played}
use Rattle.transfer_core.proofs.playing.play.Goals as goal

pub returns-in_err-taps-clause-exact : goal.returns-in_err-taps-clause-exact
returns-in_err-taps-clause-exact c =
    rw (fault_is c.from_residual.result _ c.from_residual.ensures.1) (project_refused c.args.project.now c.args.file.now c.in_err-taps.field-0.0 c.in_err-taps.ensures.exact)

pub returns-in_err-recording-clause-exact : goal.returns-in_err-recording-clause-exact
returns-in_err-recording-clause-exact c =
    rw (fault_is c.from_residual-in_err-recording.result _ c.from_residual-in_err-recording.ensures.1) (file_refused c.args.project.now c.args.file.now c.in_ok-taps.taps c.in_ok-taps.ensures.exact c.in_err-recording.field-0.0 c.in_err-recording.ensures.exact)

pub returns-then-not-rate_fits-clause-found : goal.returns-then-not-rate_fits-clause-found
returns-then-not-rate_fits-clause-found c = tt

pub returns-then-not-rate_fits-clause-exact : goal.returns-then-not-rate_fits-clause-exact
returns-then-not-rate_fits-clause-exact c =
    inr (rate_not_divided c.args.project.now c.args.file.now c.in_ok-taps.taps c.in_ok-taps.ensures.exact c.in_ok-recording.field-0 c.in_ok-recording.ensures.exact (λ is. true≢false (sym (c.rate_fits.ensures.1 (rw c.rate.ensures.value is)) ∙ c.if-not-rate_fits.true)))

pub returns-in_err-wave_of-clause-exact : goal.returns-in_err-wave_of-clause-exact
returns-in_err-wave_of-clause-exact c =
    rw (fault_is c.from_residual-in_err-wave_of.result _ c.from_residual-in_err-wave_of.ensures.1) (samples_refused c.args.project.now c.args.file.now c.in_ok-taps.taps c.in_ok-taps.ensures.exact c.in_ok-recording.field-0 c.in_ok-recording.ensures.exact (rw (← c.rate.ensures.value) (c.rate_fits.ensures.0 c.if-not-rate_fits.false)) c.in_err-wave_of.field-0.0 c.in_err-wave_of.ensures.too_large.0)

pub returns-clause-found : goal.returns-clause-found
returns-clause-found c = record {
  decimator = c.in_ok-taps.taps;
  form = c.in_ok-recording.field-0.form;
  recording = c.in_ok-recording.field-0.recording;
  project_says = c.in_ok-taps.ensures.found;
  file_holds = c.in_ok-recording.ensures.found;
  rate_divided = rw (← c.rate.ensures.value) (c.rate_fits.ensures.0 c.if-not-rate_fits.false);
  text = c.in_ok-wave_of.ensures.text;
}

pub returns-clause-exact : goal.returns-clause-exact
returns-clause-exact c =
    text_played c.args.project.now c.args.file.now c.in_ok-taps.taps c.in_ok-taps.ensures.exact c.in_ok-recording.field-0 c.in_ok-recording.ensures.exact (rw (← c.rate.ensures.value) (c.rate_fits.ensures.0 c.if-not-rate_fits.false)) c.in_ok-wave_of.field-0.items c.in_ok-wave_of.ensures.text

pub returns-in_err-taps-clause-found : goal.returns-in_err-taps-clause-found
returns-in_err-taps-clause-found c = no_value _ _ c.from_residual.result c.from_residual.ensures.1

pub returns-in_err-recording-clause-found : goal.returns-in_err-recording-clause-found
returns-in_err-recording-clause-found c = no_value _ _ c.from_residual-in_err-recording.result c.from_residual-in_err-recording.ensures.1

pub returns-in_err-wave_of-clause-found : goal.returns-in_err-wave_of-clause-found
returns-in_err-wave_of-clause-found c = no_value _ _ c.from_residual-in_err-wave_of.result c.from_residual-in_err-wave_of.ensures.1

pub wave_of-requires : goal.wave_of-requires
wave_of-requires c = record { divided = rw (← c.rate.ensures.value) (c.rate_fits.ensures.0 c.if-not-rate_fits.false) }
