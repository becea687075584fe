use Rattle.std.proofs.Common.{Err, ◌≡◌, ◌*◌, ◌<◌, ◌^◌, IfOk, ap, sym, ◌∙◌, subst, length, arith}
use Rattle.std.proofs.lemmas.Result.{err_from_is_err_and}
use Rattle.cost_core.specs.StateCosts.{trellis_of}
use Rattle.cost_core.specs.Trellis.{cost}
use Rattle.cert_core.specs.Reasons.{RowBounded}
use Rattle.cert_core.specs.Stops.{ReadsRows, InEnd}
use Rattle.cert_core.specs.Text.{entry_start}
use Rattle.std.specs.Io.KnownBytes.{Consumes}
use Rattle.chunk_core.specs.Inlets.{inlet_reader}
use Rattle.cert_core.proofs.Consuming.{maps}
use Rattle.cert_core.proofs.Whole.{last_long, last_bounded, entry_read, end_first, rows_first, start_first}
use Rattle.cert_core.proofs.entry.read_entry.Goals as goal

pub returns-in_err-read_start : goal.returns-in_err-read_start
returns-in_err-read_start g c =
    let e = err_from_is_err_and c.from_residual.result c.from_residual.ensures.1 in
    rw (e.1, e.2) (record {
      limits = c.length.ensures.limits;
      entry = tt;
      cost = tt;
      reason = maps {A = Unit {0}} (Err c.in_err-read_start.field-0.0) _ _ (start_first c.args.version (trellis_of c.args.window.now) c.args.place.cue c.args.place.channel c.length.result (cost (trellis_of c.args.window.now) c.args.bits.now) (g.R.Read.remaining (inlet_reader c.args.inlet.now)) c.length.ensures.value) c.in_err-read_start.ensures.reason;
      failures = c.in_err-read_start.ensures.failures;
    })

pub returns-in_err-steps : goal.returns-in_err-steps
returns-in_err-steps g c =
    let e = err_from_is_err_and c.from_residual-in_err-steps.result c.from_residual-in_err-steps.ensures.1 in
    rw (e.1, e.2) (record {
      limits = c.length.ensures.limits;
      entry = tt;
      cost = tt;
      reason = tt;
      failures = c.in_ok-read_start.ensures.failures;
    })

pub read_rows-requires : goal.read_rows-requires
read_rows-requires g c = record { ready = omega (arith, c.in_ok-read_start.ensures.failures, c.requires.ready); steps = ap length c.deref_mut.ensures.value ∙ c.in_ok-steps.ensures ∙ ap (λ n. 2 * n) c.states-states.ensures.value }

pub returns-in_err-last : goal.returns-in_err-last
returns-in_err-last g c =
    let t = trellis_of c.args.window.now in
    let from = g.R.Read.remaining (inlet_reader c.args.inlet.now) in
    let mid = g.R.Read.remaining (inlet_reader c.read_start.new.inlet) in
    let start : Consumes from mid (entry_start c.args.place.cue c.args.place.channel t.levels) = subst (λ n. Consumes from mid (entry_start c.args.place.cue c.args.place.channel n)) c.length.ensures.value c.in_ok-read_start.ensures.ok in
    let e = err_from_is_err_and c.from_residual-in_err-last.result c.from_residual-in_err-last.ensures.1 in
    rw (e.1, e.2) (record {
      limits = c.length.ensures.limits;
      entry = tt;
      cost = tt;
      reason = maps {A = Unit {0}} (Err c.in_err-last.field-0.0) _ _ (λ reason. rows_first c.args.version t c.args.place.cue c.args.place.channel (cost t c.args.bits.now) from mid start reason) c.in_err-last.ensures.reason;
      failures = omega (arith, c.in_err-last.ensures.failures, c.in_ok-read_start.ensures.failures);
    })

pub split_at_mut-tails-requires : goal.split_at_mut-tails-requires
split_at_mut-tails-requires g c = omega (arith, c.deref_mut-2.ensures.len, c.deref_mut.ensures.len, ap length c.deref_mut.ensures.value, c.in_ok-steps.ensures)

pub read_end-requires : goal.read_end-requires
read_end-requires g c =
    let t = trellis_of c.args.window.now in
    record {
      ready = omega (arith, c.in_ok-last.ensures.failures, c.in_ok-read_start.ensures.failures, c.requires.ready);
      bounded = c.length.ensures.bounded;
      last = ap length c.deref.ensures.value ∙ last_long c.args.version t _ _ c.in_ok-last.last.items c.in_ok-last.ensures.ok;
      limit = subst (RowBounded t) (sym c.deref.ensures.value) (last_bounded c.args.version t _ _ c.in_ok-last.last.items c.in_ok-last.ensures.ok);
      tails = c.split_at_mut-tails.ensures.front_len ∙ c.states-states.ensures.value;
    }

pub returns : goal.returns
returns g c =
    let t = trellis_of c.args.window.now in
    let from = g.R.Read.remaining (inlet_reader c.args.inlet.now) in
    let mid = g.R.Read.remaining (inlet_reader c.read_start.new.inlet) in
    let to = g.R.Read.remaining (inlet_reader c.read_rows.new.inlet) in
    let rows : ReadsRows c.args.version t mid to c.deref.result.now = subst (ReadsRows c.args.version t mid to) (sym c.deref.ensures.value) c.in_ok-last.ensures.ok in
    let start : Consumes from mid (entry_start c.args.place.cue c.args.place.channel t.levels) = subst (λ n. Consumes from mid (entry_start c.args.place.cue c.args.place.channel n)) c.length.ensures.value c.in_ok-read_start.ensures.ok in
    let small : cost t c.args.bits.now < 2 ^ 64 = omega (arith, c.length.ensures.bounded.cost_in c.args.bits.now c.requires.bits) in
    record {
      limits = c.length.ensures.limits;
      entry = entry_read c.args.version c.read_end.result t c.args.place.cue c.args.place.channel c.cost_of.result c.args.bits.now from mid to _ c.deref.result.now start rows c.cost_of.ensures.steps c.read_end.ensures.ok c.read_end.ensures.cost c.read_end.ensures.ends;
      cost = subst (λ found. IfOk c.read_end.result (λ cost. cost ≡ found)) c.cost_of.ensures.steps c.read_end.ensures.cost;
      reason = maps c.read_end.result (InEnd t c.deref.result.now c.cost_of.result to) _ (λ reason w. end_first c.args.version t c.args.place.cue c.args.place.channel (cost t c.args.bits.now) from mid to c.deref.result.now small start rows reason (subst (λ f. InEnd t c.deref.result.now f to reason) c.cost_of.ensures.steps w)) c.read_end.ensures.reason;
      failures = omega (arith, c.read_end.ensures.failures, c.in_ok-last.ensures.failures, c.in_ok-read_start.ensures.failures);
    }

pub cost_of-requires : goal.cost_of-requires
cost_of-requires g c = c.requires.bits
