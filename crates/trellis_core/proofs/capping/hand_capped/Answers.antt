use Rattle.std.proofs.Common.{◌≡◌, ◌+◌, ◌*◌, length, ap, sym, ◌∙◌, true, refl, arith}
use Rattle.std.proofs.KnownBytes.{Appends-nil}
use Rattle.dsd_bits.proofs.ExitLaws.{any_err, no_ok}
use Rattle.cost_core.specs.Trellis.{states}
use Rattle.cost_core.specs.StateCosts.{trellis_of}
use Rattle.trellis_core.specs.Best.{best_row}
use Rattle.trellis_core.specs.Decisions.{decision_bytes}
use Rattle.trellis_core.specs.Handing.{capped_at, capped_spelling}
use Rattle.trellis_core.proofs.TableLaws.{written, written_length}
use Rattle.trellis_core.proofs.FaultLaws.{fault_says}
use Rattle.trellis_core.proofs.HandedOver.{capped_is, capped_more, capped_prefix, hands_all, hands_up_to}
use Rattle.trellis_core.proofs.RowLaws.{row_length}
use Rattle.trellis_core.proofs.capping.hand_capped.Goals as goal
use Rattle.trellis_core.proofs.capping.hand_capped.Goals.{After-deref-in-loop-level, After-deref-3}
use Rattle.trellis_core.proofs.capping.hand_capped.Given.{Over}

pub cap_row-requires : goal.cap_row-requires
cap_row-requires g c =
    let t = trellis_of c.args.window.now in
    ap length c.deref_mut-in-loop-level.ensures.value ∙ c.loop-level.invariant.totals ∙ sym (ap length (c.deref.ensures.value ∙ c.loop-level.invariant.row) ∙ row_length t c.loop-level.level)

pub cap_row-requires-2 : goal.cap_row-requires-2
cap_row-requires-2 g c =
    let t = trellis_of c.args.window.now in
    ap length c.deref_mut-2.ensures.value ∙ c.loop-level.invariant.totals ∙ sym (ap length (c.deref-2.ensures.value ∙ c.loop-level.invariant.row) ∙ row_length t c.loop-level.level)

-- ---- a level
module _ (g : Over) (c : After-deref-in-loop-level g) where
  row_is : c.deref.result.now ≡ best_row (trellis_of c.args.window.now) c.loop-level.level
  row_is = c.deref.ensures.value ∙ c.loop-level.invariant.row

  capped_long : length c.cap_row.new.capped ≡ states (trellis_of c.args.window.now)
  capped_long = omega (arith, c.cap_row.auto.capped, ap length c.deref_mut-in-loop-level.ensures.value, c.loop-level.invariant.totals)

  row_capped : c.deref-in-loop-level.result.now ≡ capped_at c.args.cost c.deref.result.now
  row_capped =
      c.deref-in-loop-level.ensures.value
      ∙ written c.loop-level.room.totals.len c.cap_row.new.capped c.loop-level.room.totals.items c.loop-level.room.totals.ok.0 (omega (arith, capped_long, c.loop-level.invariant.totals))
      ∙ capped_is c.args.cost c.deref.result.now c.cap_row.new.capped (capped_long ∙ sym (ap length row_is ∙ row_length (trellis_of c.args.window.now) c.loop-level.level)) c.cap_row.ensures

pub returns-in_err-level : goal.returns-in_err-level
returns-in_err-level g c =
    let here = (goal.at.returns-in_err-level g c).After-deref-in-loop-level in
    let t = trellis_of c.args.window.now in
    let inv = c.loop-level.invariant in
    let part = capped_prefix t c.args.cost g.S.LevelSink.spelling (g.S.LevelSink.kind c.args.sink.now) (g.S.LevelSink.kind c.loop-level.sink) (g.S.LevelSink.text c.args.sink.now) (g.S.LevelSink.text c.loop-level.sink) (g.S.LevelSink.text c.level.new.self) c.loop-level.level c.deref.result.now c.deref-in-loop-level.result.now
    inv.kind (row_is g here) (row_capped g here) inv.handed c.in_err-level.ensures.err in
    let r = c.from_residual.result in
    record {
      buffers = no_ok _ _ r c.from_residual.ensures.1;
      ok = no_ok _ _ r c.from_residual.ensures.1;
      err = any_err r (hands_up_to t c.length-level-end.ensures.bounded (capped_spelling c.args.cost (g.S.LevelSink.spelling (g.S.LevelSink.kind c.args.sink.now))) (g.S.LevelSink.text c.args.sink.now) (g.S.LevelSink.text c.level.new.self) c.loop-level.level c.deref.result.now (omega (arith, c.loop-level-test.true, c.length-level-end.ensures.value)) (row_is g here) part);
      refused = fault_says {Q = g.S.LevelSink.has_refused c.level.new.self ≡ true} _ _ r c.from_residual.ensures.1 (c.in_err-level.ensures.refused c.loop-level.invariant.ready);
      rows_left = no_ok _ _ r c.from_residual.ensures.1;
      row_length = c.level.ensures.row_length ∙ c.loop-level.invariant.row_length;
      kind = c.level.ensures.kind ∙ c.loop-level.invariant.kind;
      kept = c.level.ensures.kept ∙ c.loop-level.invariant.kept;
    }

pub loop-level-preserved : goal.loop-level-preserved
loop-level-preserved g c =
    let here = (goal.at.loop-level-preserved g c).After-deref-in-loop-level in
    let t = trellis_of c.args.window.now in
    let inv = c.loop-level.invariant in
    let kept = c.next_row.ensures in
    let more = capped_more t c.args.cost g.S.LevelSink.spelling (g.S.LevelSink.kind c.args.sink.now) (g.S.LevelSink.kind c.loop-level.sink) (g.S.LevelSink.text c.args.sink.now) (g.S.LevelSink.text c.loop-level.sink) (g.S.LevelSink.text c.level.new.self) c.loop-level.level c.deref.result.now c.deref-in-loop-level.result.now
    inv.kind (row_is g here) (row_capped g here) inv.handed c.in_ok-level.ensures.ok in
    let between = written_length c.loop-level.room.totals.len (states t) c.cap_row.new.capped c.loop-level.room.totals.items c.loop-level.room.totals.ok.0 (capped_long g here) inv.totals in
    let following_long : length c.next_row.new.following ≡ states t = ap length kept.following ∙ row_length t (c.loop-level.level + 1) in
    let following = written c.loop-level.room.totals.len c.next_row.new.following _ (c.loop-level.room.totals.ok.0 ∙ inv.totals ∙ sym between) (following_long ∙ sym between) in
    record {
      steps = written_length c.loop-level.room.steps.len (2 * states t) c.next_row.new.steps c.loop-level.room.steps.items c.loop-level.room.steps.ok.0 (kept.steps_length ∙ ap length c.deref_mut-in-loop-level-2.ensures.value ∙ inv.steps) inv.steps;
      row = ap (λ v. v.items) c.swap.ensures.x_after ∙ following ∙ kept.following;
      totals = ap (λ v. length v.items) c.swap.ensures.y_after ∙ ap length inv.row ∙ row_length t c.loop-level.level;
      decided = written_length c.loop-level.room.decided.len (decision_bytes (states t)) c.next_row.new.decisions c.loop-level.room.decided.items c.loop-level.room.decided.ok.0 (kept.decisions_length ∙ ap length c.deref_mut-in-loop-level-4.ensures.value ∙ inv.decided) inv.decided;
      handed = more;
      left = omega (arith, c.in_ok-level.ensures.rows, inv.left);
      row_length = c.level.ensures.row_length ∙ inv.row_length;
      kind = c.level.ensures.kind ∙ inv.kind;
      kept = c.level.ensures.kept ∙ inv.kept;
      ready = c.in_ok-level.ensures.refused inv.ready;
    }

-- ---- the last level
module _ (g : Over) (c : After-deref-3 g) where
  last_is : c.deref-2.result.now ≡ best_row (trellis_of c.args.window.now) c.loop-level.level
  last_is = c.deref-2.ensures.value ∙ c.loop-level.invariant.row

  last_long : length c.cap_row-2.new.capped ≡ states (trellis_of c.args.window.now)
  last_long = omega (arith, c.cap_row-2.auto.capped, ap length c.deref_mut-2.ensures.value, c.loop-level.invariant.totals)

  last_capped : c.deref-3.result.now ≡ capped_at c.args.cost c.deref-2.result.now
  last_capped =
      c.deref-3.ensures.value
      ∙ written c.loop-level.room.totals.len c.cap_row-2.new.capped c.loop-level.room.totals.items c.loop-level.room.totals.ok.0 (omega (arith, last_long, c.loop-level.invariant.totals))
      ∙ capped_is c.args.cost c.deref-2.result.now c.cap_row-2.new.capped (last_long ∙ sym (ap length last_is ∙ row_length (trellis_of c.args.window.now) c.loop-level.level)) c.cap_row-2.ensures

pub returns-in_err-level-2 : goal.returns-in_err-level-2
returns-in_err-level-2 g c =
    let here = (goal.at.returns-in_err-level-2 g c).After-deref-3 in
    let t = trellis_of c.args.window.now in
    let inv = c.loop-level.invariant in
    let part = capped_prefix t c.args.cost g.S.LevelSink.spelling (g.S.LevelSink.kind c.args.sink.now) (g.S.LevelSink.kind c.loop-level.sink) (g.S.LevelSink.text c.args.sink.now) (g.S.LevelSink.text c.loop-level.sink) (g.S.LevelSink.text c.level-2.new.self) c.loop-level.level c.deref-2.result.now c.deref-3.result.now
    inv.kind (last_is g here) (last_capped g here) inv.handed c.in_err-level-2.ensures.err in
    let r = c.from_residual-in_err-level-2.result in
    record {
      buffers = no_ok _ _ r c.from_residual-in_err-level-2.ensures.1;
      ok = no_ok _ _ r c.from_residual-in_err-level-2.ensures.1;
      err = any_err r (hands_up_to t c.length-level-end.ensures.bounded (capped_spelling c.args.cost (g.S.LevelSink.spelling (g.S.LevelSink.kind c.args.sink.now))) (g.S.LevelSink.text c.args.sink.now) (g.S.LevelSink.text c.level-2.new.self) c.loop-level.level c.deref-2.result.now (omega (arith, c.loop-level-test.false, c.length-level-end.ensures.value)) (last_is g here) part);
      refused = fault_says {Q = g.S.LevelSink.has_refused c.level-2.new.self ≡ true} _ _ r c.from_residual-in_err-level-2.ensures.1 (c.in_err-level-2.ensures.refused c.loop-level.invariant.ready);
      rows_left = no_ok _ _ r c.from_residual-in_err-level-2.ensures.1;
      row_length = c.level-2.ensures.row_length ∙ c.loop-level.invariant.row_length;
      kind = c.level-2.ensures.kind ∙ c.loop-level.invariant.kind;
      kept = c.level-2.ensures.kept ∙ c.loop-level.invariant.kept;
    }

pub returns : goal.returns
returns g c =
    let t = trellis_of c.args.window.now in
    let inv = c.loop-level.invariant in
    let here = (goal.at.returns g c).After-deref-3 in
    let more = capped_more t c.args.cost g.S.LevelSink.spelling (g.S.LevelSink.kind c.args.sink.now) (g.S.LevelSink.kind c.loop-level.sink) (g.S.LevelSink.text c.args.sink.now) (g.S.LevelSink.text c.loop-level.sink) (g.S.LevelSink.text c.level-2.new.self) c.loop-level.level c.deref-2.result.now c.deref-3.result.now
    inv.kind (last_is g here) (last_capped g here) inv.handed c.in_ok-level-2.ensures.ok in
    record {
      buffers = record {
        steps = inv.steps;
        row = ap length inv.row ∙ row_length t c.loop-level.level;
        totals = written_length c.loop-level.room.totals.len (states t) c.cap_row-2.new.capped c.loop-level.room.totals.items c.loop-level.room.totals.ok.0 (last_long g here) inv.totals;
        decided = inv.decided;
      };
      ok = hands_all t c.length-level-end.ensures.bounded (capped_spelling c.args.cost (g.S.LevelSink.spelling (g.S.LevelSink.kind c.args.sink.now))) (g.S.LevelSink.text c.args.sink.now) (g.S.LevelSink.text c.level-2.new.self) c.loop-level.level (omega (arith, c.loop-level-test.false, c.length-level-end.ensures.value, c.loop-level.auto.level-end)) more;
      err = tt;
      refused = c.in_ok-level-2.ensures.refused c.loop-level.invariant.ready;
      rows_left = omega (arith, c.in_ok-level-2.ensures.rows, c.loop-level.invariant.left, c.loop-level-test.false, c.loop-level.auto.level-end, c.length-level-end.ensures.value);
      row_length = c.level-2.ensures.row_length ∙ c.loop-level.invariant.row_length;
      kind = c.level-2.ensures.kind ∙ c.loop-level.invariant.kind;
      kept = c.level-2.ensures.kept ∙ c.loop-level.invariant.kept;
    }

pub loop-level-init : goal.loop-level-init
loop-level-init g c =
    let room = c.args.room.now in
    let t = trellis_of c.args.window.now in
    let long : length c.write_first_row.new.row ≡ length room.row.items = ap length c.write_first_row.ensures ∙ row_length t 0 ∙ sym c.requires.buffers.row in
    record {
      steps = c.requires.buffers.steps;
      row = written room.row.len c.write_first_row.new.row room.row.items room.row.ok.0 long ∙ c.write_first_row.ensures;
      totals = c.requires.buffers.totals;
      decided = c.requires.buffers.decided;
      handed = Appends-nil (g.S.LevelSink.text c.args.sink.now);
      left = omega arith;
      row_length = refl;
      kind = refl;
      kept = refl;
      ready = c.requires.ready;
    }

pub level-requires : goal.level-requires
level-requires g c = record {
  rows = omega (arith, c.loop-level.invariant.left, c.loop-level-test.true, c.length-level-end.ensures.value, c.requires.rows);
  row = omega (arith, c.deref-in-loop-level.ensures.len, c.loop-level.room.totals.ok.0, c.loop-level.invariant.totals, c.loop-level.invariant.row_length, c.requires.row_length);
}

pub level-requires-2 : goal.level-requires-2
level-requires-2 g c = record {
  rows = omega (arith, c.loop-level.invariant.left, c.loop-level.auto.level-end, c.length-level-end.ensures.value, c.requires.rows);
  row = omega (arith, c.deref-3.ensures.len, c.loop-level.room.totals.ok.0, c.loop-level.invariant.totals, c.loop-level.invariant.row_length, c.requires.row_length);
}

pub next_row-requires : goal.next_row-requires
next_row-requires g c = record {
  level = omega (arith, c.loop-level-test.true, c.length-level-end.ensures.value);
  row = c.deref-in-loop-level-2.ensures.value ∙ c.loop-level.invariant.row;
  steps = ap length c.deref_mut-in-loop-level-2.ensures.value ∙ c.loop-level.invariant.steps;
  following = c.deref_mut-in-loop-level-3.ensures.len ∙ c.loop-level.room.totals.ok.0 ∙ c.loop-level.invariant.totals;
  decisions = ap length c.deref_mut-in-loop-level-4.ensures.value ∙ c.loop-level.invariant.decided;
}

pub write_first_row-requires : goal.write_first_row-requires
write_first_row-requires g c = ap length c.deref_mut.ensures.value ∙ c.requires.buffers.row
