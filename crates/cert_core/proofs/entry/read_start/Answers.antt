use Rattle.std.proofs.Common.{◌∙◌, ◌<◌, ◌⊎◌, Err, IfSome, arith, inl, inr, length, refl, subst, sym}
use Rattle.std.proofs.lemmas.Result.{err_from_is_err_and}
use Rattle.std.specs.Io.KnownBytes.{Consumes}
use Rattle.chunk_core.specs.Inlets.{inlet_reader}
use Rattle.cert_core.specs.Text.{entry_start}
use Rattle.cert_core.specs.Reasons.{StartReason}
use Rattle.cert_core.specs.Stops.{CutBelow, InStart}
use Rattle.cert_core.specs.declared.verdict.CertReason.TheVariants.{Head, Length}
use Rattle.cert_core.proofs.Consuming.{after, maps}
use Rattle.cert_core.proofs.entry.read_start.Goals as goal

-- which of two numbers is another
either : {A B C : Type 0} → A ⊎ (B × C) → A ⊎ C
either (inl a) = inl a
either (inr b) = inr b.1

pub returns-in_err-fill : goal.returns-in_err-fill
returns-in_err-fill g c =
    let left = g.R.Read.remaining (inlet_reader c.args.inlet.now) in
    let e = err_from_is_err_and c.from_residual.result c.from_residual.ensures.1 in
    rw (e.1, e.2) (record {
      ok = tt;
      reason = maps {A = Unit {0}} (Err c.in_err-fill.field-0.0) (CutBelow left (length c.fill.new.buffer)) (InStart left c.args.cue c.args.channel c.args.length) (λ reason w. subst (InStart left c.args.cue c.args.channel c.args.length) (sym w.0) (subst (λ n. IfSome left (λ bytes. length bytes < n)) c.fill.auto.buffer w.1)) c.in_err-fill.ensures.cut;
      failures = c.in_err-fill.ensures.failures;
    })

pub returns-then-found_cue-cue : goal.returns-then-found_cue-cue
returns-then-found_cue-cue g c =
    let left = g.R.Read.remaining (inlet_reader c.args.inlet.now) in
    let rest = g.R.Read.remaining (inlet_reader c.fill.new.inlet) in
    let n = c.start_numbers-found_cue.result in
    record {
      ok = tt;
      reason = after (λ bytes. StartReason c.args.cue c.args.channel c.args.length bytes Head) left rest _ (subst (Consumes left rest) c.start_numbers-found_cue.ensures c.in_ok-fill.ensures.ok) (λ bytes. (n.0, n.1, n.2, bytes, refl, omega arith, omega arith, omega arith, either c.then-found_cue-cue.either));
      failures = c.in_ok-fill.ensures.failures;
    }

pub returns-then-from-length : goal.returns-then-from-length
returns-then-from-length g c =
    let left = g.R.Read.remaining (inlet_reader c.args.inlet.now) in
    let rest = g.R.Read.remaining (inlet_reader c.fill.new.inlet) in
    let n = c.start_numbers-found_cue.result.2 in
    let start : Consumes left rest (entry_start c.args.cue c.args.channel n) = rw⁻¹ (c.if-found_cue-cue.false, c.if-found_channel-channel.false) (subst (Consumes left rest) c.start_numbers-found_cue.ensures c.in_ok-fill.ensures.ok) in
    record {
      ok = tt;
      reason = after (λ bytes. StartReason c.args.cue c.args.channel c.args.length bytes Length) left rest _ start (λ bytes. (n, bytes, refl, omega (arith, c.start_numbers-found_cue.type_inv), λ same. c.if-from-length.true (c.from.ensures ∙ same)));
      failures = c.in_ok-fill.ensures.failures;
    }

pub returns : goal.returns
returns g c =
    let left = g.R.Read.remaining (inlet_reader c.args.inlet.now) in
    let rest = g.R.Read.remaining (inlet_reader c.fill.new.inlet) in
    record {
      ok = rw⁻¹ (c.if-found_cue-cue.false, c.if-found_channel-channel.false, sym c.from.ensures ∙ c.if-from-length.false) (subst (Consumes left rest) c.start_numbers-found_cue.ensures c.in_ok-fill.ensures.ok);
      reason = tt;
      failures = c.in_ok-fill.ensures.failures;
    }
