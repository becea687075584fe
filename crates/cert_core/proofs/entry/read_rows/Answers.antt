use Rattle.std.proofs.Common.{◌≡◌, ◌+◌, ◌*◌, Err, add-zero, ap, sym, ◌∙◌, subst, refl, length, arith}
use Rattle.std.proofs.lemmas.Result.{err_from_is_err_and}
use Rattle.std.specs.Io.KnownBytes.{Consumes}
use Rattle.dsd_bits.proofs.ShiftingLemmas.{written_back}
use Rattle.chunk_core.specs.Inlets.{inlet_reader}
use Rattle.cost_core.specs.StateCosts.{trellis_of}
use Rattle.cost_core.specs.Trellis.{states}
use Rattle.cert_core.specs.Reasons.{RowBounded, RowClean, RowReason, Bounded}
use Rattle.cert_core.specs.Spelling.{row_text}
use Rattle.cert_core.specs.Stops.{OnReason, InSpelling}
use Rattle.cert_core.proofs.Consuming.{maps}
use Rattle.cert_core.proofs.Entries.{RowsSoFar-all, RowsSoFar-none, RowsSoFar-more, RowsSoFar-bounded, RowsSoFar-fault, RowsSoFar-spelling, RowsSoFar}
use Rattle.cert_core.proofs.entry.read_rows.Given.{Over}
use Rattle.cert_core.proofs.entry.read_rows.Goals as goal
use Rattle.cert_core.proofs.entry.read_rows.Goals.{After-deref-in-loop-level}

pub returns-in_err-previous : goal.returns-in_err-previous
returns-in_err-previous g c =
    let e = err_from_is_err_and c.from_residual.result c.from_residual.ensures.1 in
    rw (e.1, e.2) (record {
      steps = refl;
      ok = tt;
      reason = tt;
      failures = sym (add-zero _);
    })

pub returns-in_err-row : goal.returns-in_err-row
returns-in_err-row g c =
    let e = err_from_is_err_and c.from_residual-in_err-row.result c.from_residual-in_err-row.ensures.1 in
    rw (e.1, e.2) (record {
      steps = refl;
      ok = tt;
      reason = tt;
      failures = sym (add-zero _);
    })

pub returns-in_err-buffer : goal.returns-in_err-buffer
returns-in_err-buffer g c =
    let e = err_from_is_err_and c.from_residual-in_err-buffer.result c.from_residual-in_err-buffer.ensures.1 in
    rw (e.1, e.2) (record {
      steps = refl;
      ok = tt;
      reason = tt;
      failures = sym (add-zero _);
    })

pub overflow_add-level-end : goal.overflow_add-level-end
overflow_add-level-end g c = omega (arith, c.length-level-end.ensures.value, c.length-level-end.ensures.limits.levels_in)

pub loop-level-init : goal.loop-level-init
loop-level-init g c =
    (RowsSoFar-none c.args.version (trellis_of c.args.window.now) _ c.in_ok-previous.previous.items (c.in_ok-previous.ensures ∙ c.states-states.ensures.value), c.in_ok-row.ensures ∙ c.states-states.ensures.value, omega (arith, c.in_ok-buffer.ensures, c.states-states.ensures.value), refl)

pub read_row-requires : goal.read_row-requires
read_row-requires g c =
    let row : length c.deref_mut-in-loop-level.result.now ≡ states (trellis_of c.args.window.now) = ap length c.deref_mut-in-loop-level.ensures.value ∙ c.loop-level.invariant.1 in
    let buffer : length c.deref_mut.result.now ≡ 8 + 8 * states (trellis_of c.args.window.now) = ap length c.deref_mut.ensures.value ∙ c.loop-level.invariant.2 in
    record { ready = omega (arith, c.loop-level.invariant.3, c.requires.ready); some = omega (arith, row, c.states-states.ensures.bounded.start_in); room = omega (arith, row, buffer) }

pub returns-in_err-read_row : goal.returns-in_err-read_row
returns-in_err-read_row g c =
    let t = trellis_of c.args.window.now in
    let so = c.loop-level.invariant in
    let known = g.R.Read.remaining (inlet_reader c.loop-level.inlet) in
    let long : length c.deref_mut-in-loop-level.result.now ≡ length c.loop-level.row.items = ap length c.deref_mut-in-loop-level.ensures.value in
    let e = err_from_is_err_and c.from_residual-in_err-read_row.result c.from_residual-in_err-read_row.ensures.1 in
    rw (e.1, e.2) (record {
      steps = c.loop-level.auto.steps;
      ok = tt;
      reason = maps {A = Unit {0}} (Err c.in_err-read_row.field-0.0) _ _ (RowsSoFar-spelling c.args.version t _ _ c.loop-level.level c.loop-level.previous.items (length c.loop-level.row.items) so.0 (omega (arith, c.length-level-end.ensures.value, c.loop-level-test.true)) so.1) (subst (λ n. OnReason {T = Unit {0}} (Err c.in_err-read_row.field-0.0) (InSpelling c.args.version n c.loop-level.level known)) long c.in_err-read_row.ensures.reason);
      failures = omega (arith, c.in_err-read_row.ensures.failures, c.loop-level.invariant.3);
    })

-- the row that was read
module _ (g : Over) (c : After-deref-in-loop-level g) where
  back : c.deref-in-loop-level.result.now ≡ c.read_row.new.row
  back = c.deref-in-loop-level.ensures.value ∙ written_back c.read_row.new.row _ c.loop-level.row.len (omega (arith, c.in_ok-read_row.ensures.len, c.deref_mut-in-loop-level.ensures.len))

  long : length c.deref-in-loop-level.result.now ≡ states (trellis_of c.args.window.now)
  long = ap length back ∙ c.in_ok-read_row.ensures.len ∙ ap length c.deref_mut-in-loop-level.ensures.value ∙ c.loop-level.invariant.1

  read : Consumes (g.R.Read.remaining (inlet_reader c.loop-level.inlet)) (g.R.Read.remaining (inlet_reader c.read_row.new.inlet)) (row_text c.args.version c.deref-in-loop-level.result.now)
  read = subst (λ row. Consumes (g.R.Read.remaining (inlet_reader c.loop-level.inlet)) (g.R.Read.remaining (inlet_reader c.read_row.new.inlet)) (row_text c.args.version row)) (sym back) c.in_ok-read_row.ensures.ok

  bounded : RowBounded (trellis_of c.args.window.now) c.deref-in-loop-level.result.now
  bounded = subst (λ n. Bounded n c.deref-in-loop-level.result.now) long (subst (λ row. Bounded (length row) row) (sym back) c.in_ok-read_row.ensures.bounded)

pub row_reason-requires : goal.row_reason-requires
row_reason-requires g c =
    let t = trellis_of c.args.window.now in
    record {
      level = omega (arith, c.loop-level-test.true, c.length-level-end.ensures.value);
      row = long g (goal.at.row_reason-requires g c).After-deref-in-loop-level;
      bounded = c.length-level-end.ensures.bounded;
      bounds = bounded g (goal.at.row_reason-requires g c).After-deref-in-loop-level;
      previous = λ _. ap length c.deref.ensures.value ∙ c.loop-level.invariant.0.long;
      limit = λ some. subst (RowBounded t) (sym c.deref.ensures.value) (RowsSoFar-bounded c.args.version t _ _ c.loop-level.level c.loop-level.previous.items c.loop-level.invariant.0 some);
      steps = c.loop-level.auto.steps ∙ c.requires.steps;
    }

pub returns-in-Some : goal.returns-in-Some
returns-in-Some g c =
    let t = trellis_of c.args.window.now in
    let at = (goal.at.returns-in-Some g c).After-deref-in-loop-level in
    let w = subst (λ p. RowReason t c.loop-level.level p c.deref-in-loop-level.result.now c.in-Some.reason) c.deref.ensures.value c.in-Some.ensures.reason in
    record {
      steps = c.row_reason.ensures.steps ∙ c.loop-level.auto.steps;
      ok = tt;
      reason = RowsSoFar-fault c.args.version t _ _ _ c.loop-level.level c.loop-level.previous.items c.deref-in-loop-level.result.now c.loop-level.invariant.0 (read g at) (long g at) (omega (arith, c.length-level-end.ensures.value, c.loop-level-test.true)) (bounded g at) c.in-Some.reason w;
      failures = omega (arith, c.in_ok-read_row.ensures.failures, c.loop-level.invariant.3);
    }

pub overflow_step-level : goal.overflow_step-level
overflow_step-level g c = omega (arith, c.loop-level-test.true, c.length-level-end.ensures.value, c.length-level-end.ensures.limits.levels_in)

pub loop-level-preserved : goal.loop-level-preserved
loop-level-preserved g c =
    let t = trellis_of c.args.window.now in
    let at = (goal.at.loop-level-preserved g c).After-deref-in-loop-level in
    let row = c.deref-in-loop-level.result.now in
    let w = subst (λ p. RowClean t c.loop-level.level p row) c.deref.ensures.value c.in_default.ensures.reason in
    let from = g.R.Read.remaining (inlet_reader c.args.inlet.now) in
    let to = g.R.Read.remaining (inlet_reader c.read_row.new.inlet) in
    let more = RowsSoFar-more c.args.version t _ _ _ c.loop-level.level c.loop-level.previous.items row c.loop-level.invariant.0 (read g at) (long g at) w in (
      subst (λ v. RowsSoFar c.args.version t from to (c.loop-level.level + 1) v.items) (sym c.swap.ensures.x_after) (subst (RowsSoFar c.args.version t from to (c.loop-level.level + 1)) c.deref-in-loop-level.ensures.value more),
      ap (λ v. length v.items) c.swap.ensures.y_after ∙ c.loop-level.invariant.0.long,
      ap length (written_back c.read_row.new.buffer _ c.loop-level.buffer.len (omega (arith, c.in_ok-read_row.ensures.buffer, c.deref_mut.ensures.len))) ∙ c.in_ok-read_row.ensures.buffer ∙ ap length c.deref_mut.ensures.value ∙ c.loop-level.invariant.2,
      omega (arith, c.loop-level.invariant.3, c.in_ok-read_row.ensures.failures),
    )

pub returns : goal.returns
returns g c = record {
  steps = c.loop-level.auto.steps;
  ok = RowsSoFar-all c.args.version (trellis_of c.args.window.now) _ _ c.loop-level.level c.loop-level.previous.items c.loop-level.invariant.0 (omega (arith, c.length-level-end.ensures.value, c.loop-level-test.false));
  reason = tt;
  failures = omega (arith, c.loop-level.invariant.3);
}
