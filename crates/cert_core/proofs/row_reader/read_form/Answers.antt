use Rattle.std.proofs.Common.{◌≡◌, ◌<◌, ◌⊎◌, Err, arith, inl, length, subst}
use Rattle.std.proofs.lemmas.Result.{err_from_is_err_and}
use Rattle.std.specs.Io.KnownBytes.{Consumes}
use Rattle.chunk_core.specs.Inlets.{inlet_reader}
use Rattle.cert_core.specs.declared.verdict.CertReason.TheVariants.{Cut, Row}
use Rattle.cert_core.specs.declared.version.Version.TheVariants.{Two}
use Rattle.cert_core.specs.Spelling.{IsTooWide}
use Rattle.cert_core.specs.Stops.{CutBelow, InForm}
use Rattle.cert_core.proofs.Consuming.{if_some, maps}
use Rattle.cert_core.proofs.Reading.{form_text, too_wide}
use Rattle.cert_core.proofs.row_reader.read_form.Goals as goal

pub returns-in_err-fill : goal.returns-in_err-fill
returns-in_err-fill g c =
    let from = g.R.Read.remaining (inlet_reader c.args.inlet.now) in
    let nine : length c.fill.new.buffer ≡ 9 = c.fill.auto.buffer in
    let e = err_from_is_err_and c.from_residual.result c.from_residual.ensures.1 in
    rw (e.1, e.2) (record {
      ok = tt;
      few = tt;
      reason = maps {A = Unit {0}} (Err c.in_err-fill.field-0.0) (CutBelow from (length c.fill.new.buffer)) (InForm c.args.level from) (λ reason w. if_some from (λ bytes. length bytes < length c.fill.new.buffer) (λ bytes. ((reason ≡ Cut) × (length bytes < 9)) ⊎ ((reason ≡ Row c.args.level) × IsTooWide Two bytes)) (λ bytes h. inl (w.0, subst (λ n. length bytes < n) nine h)) w.1) c.in_err-fill.ensures.cut;
      failures = c.in_err-fill.ensures.failures;
    })

pub returns-then-width-gt8 : goal.returns-then-width-gt8
returns-then-width-gt8 g c = record {
  ok = tt;
  few = tt;
  reason = too_wide c.fill.new.buffer c.fill.auto.buffer (g.R.Read.remaining (inlet_reader c.args.inlet.now)) (g.R.Read.remaining (inlet_reader c.fill.new.inlet)) c.args.level c.from-width.result c.in_ok-fill.ensures.ok c.from-width.ensures c.if-width-gt8.true;
  failures = c.in_ok-fill.ensures.failures;
}

pub returns : goal.returns
returns g c = record {
  ok = subst (Consumes (g.R.Read.remaining (inlet_reader c.args.inlet.now)) (g.R.Read.remaining (inlet_reader c.fill.new.inlet))) (form_text c.fill.new.buffer c.fill.auto.buffer c.number_at.result c.from-width.result c.number_at.ensures c.from-width.ensures) c.in_ok-fill.ensures.ok;
  few = omega (arith, c.if-width-gt8.false);
  reason = tt;
  failures = c.in_ok-fill.ensures.failures;
}
