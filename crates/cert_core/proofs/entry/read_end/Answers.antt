use Rattle.std.proofs.Common.{◌≡◌, Err, arith, refl, subst, sym}
use Rattle.std.proofs.lemmas.Result.{err_from_is_err_and}
use Rattle.chunk_core.specs.Inlets.{inlet_reader}
use Rattle.cost_core.specs.StateCosts.{trellis_of}
use Rattle.cert_core.specs.declared.verdict.CertReason.TheVariants.{Cost, End}
use Rattle.cert_core.specs.Reasons.{EndReason}
use Rattle.cert_core.specs.Stops.{InEnd}
use Rattle.cert_core.proofs.Consuming.{after, maps}
use Rattle.cert_core.proofs.entry.read_end.Goals as goal

pub returns-in_err-stated : goal.returns-in_err-stated
returns-in_err-stated g c =
    let q = InEnd (trellis_of c.args.window.now) c.args.last.now c.args.found (g.R.Read.remaining (inlet_reader c.args.inlet.now)) in
    let e = err_from_is_err_and c.from_residual.result c.from_residual.ensures.1 in
    rw (e.1, e.2) (record {
      ok = tt;
      cost = tt;
      ends = tt;
      reason = maps {A = Unit {0}} (Err c.in_err-stated.field-0.0) _ q (λ reason w. subst q (sym w.0) w.1) c.in_err-stated.ensures.cut;
      failures = c.in_err-stated.ensures.failures;
    })

pub returns-then-stated-found : goal.returns-then-stated-found
returns-then-stated-found g c =
    let from = g.R.Read.remaining (inlet_reader c.args.inlet.now) in
    let to = g.R.Read.remaining (inlet_reader c.read_number.new.inlet) in
    record {
      ok = tt;
      cost = tt;
      ends = tt;
      reason = after (λ bytes. EndReason (trellis_of c.args.window.now) c.args.last.now c.args.found bytes Cost) from to _ c.in_ok-stated.ensures.ok (λ rest. (c.in_ok-stated.stated, rest, refl, omega arith, c.if-stated-found.true));
      failures = c.in_ok-stated.ensures.failures;
    }

pub returns-in-Some : goal.returns-in-Some
returns-in-Some g c =
    let t = trellis_of c.args.window.now in
    let last = c.args.last.now in
    let from = g.R.Read.remaining (inlet_reader c.args.inlet.now) in
    let to = g.R.Read.remaining (inlet_reader c.read_number.new.inlet) in
    let e : c.in_ok-stated.stated ≡ c.args.found = omega (arith, c.if-stated-found.false) in
    record {
      ok = tt;
      cost = tt;
      ends = tt;
      reason = subst (λ found. InEnd t last found from (End c.in-Some.state)) e (after (λ bytes. EndReason t last c.in_ok-stated.stated bytes (End c.in-Some.state)) from to _ c.in_ok-stated.ensures.ok (λ rest. (rest, refl, c.in-Some.ensures.0, c.in-Some.ensures.1, c.in-Some.ensures.2)));
      failures = c.in_ok-stated.ensures.failures;
    }

pub returns-in-None : goal.returns-in-None
returns-in-None g c = record {
  ok = c.in_ok-stated.ensures.ok;
  cost = omega (arith, c.if-stated-found.false);
  ends = c.in-None.ensures;
  reason = tt;
  failures = c.in_ok-stated.ensures.failures;
}
