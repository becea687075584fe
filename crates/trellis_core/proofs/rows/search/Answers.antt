use Rattle.std.proofs.Common.{◌≡◌, ◌+◌, ◌*◌, ◌++◌, Err, length, ap, sym, subst, ◌∙◌, refl, arith}
use Rattle.std.proofs.lemmas.Result.{err_from_is_err_and}
use Rattle.std.proofs.KnownBytes.{Appends-nil}
use Rattle.dsd_bits.proofs.ExitLaws.{no_ok}
use Rattle.cost_core.specs.Trellis.{states}
use Rattle.cost_core.specs.StateCosts.{trellis_of}
use Rattle.trellis_core.specs.Best.{best_row}
use Rattle.trellis_core.specs.declared.fault.BridgeFault.TheVariants.{Memory, Sink}
use Rattle.trellis_core.specs.Decisions.{AreAllDecisions}
use Rattle.trellis_core.proofs.Decisions.{one_more}
use Rattle.trellis_core.proofs.TableLaws.{totals_length, written, written_length}
use Rattle.trellis_core.proofs.HandedOver.{hands_more, hands_front, hands_some, hands_up_to, hands_all}
use Rattle.trellis_core.proofs.RowLaws.{row_length}
use Rattle.trellis_core.proofs.FaultLaws.{not_memory, not_refused, not_sink, true_or_false}
use Rattle.trellis_core.proofs.rows.search.Goals as goal

pub level-requires : goal.level-requires
level-requires g c =
    let t = trellis_of c.args.window.now in
    record {
      rows = omega (arith, c.loop-level.invariant.left, c.loop-level-test.true, c.length-level-end.ensures.value, c.requires.rows);
      row = rw (c.deref.ensures.value, c.loop-level.invariant.row) (row_length t c.loop-level.level ∙ sym c.requires.row_length ∙ sym c.loop-level.invariant.row_length);
    }

pub returns-in_err-level : goal.returns-in_err-level
returns-in_err-level g c =
    let t = trellis_of c.args.window.now in
    let row_is : c.deref.result.now ≡ best_row t c.loop-level.level = c.deref.ensures.value ∙ c.loop-level.invariant.row in
    let part = hands_front t g.S.LevelSink.spelling (g.S.LevelSink.kind c.args.sink.now) (g.S.LevelSink.kind c.loop-level.sink) (g.S.LevelSink.text c.args.sink.now) (g.S.LevelSink.text c.loop-level.sink) (g.S.LevelSink.text c.level.new.self) c.loop-level.level c.deref.result.now c.loop-level.invariant.kind row_is c.loop-level.invariant.handed c.in_err-level.ensures.err in
    let r = c.from_residual.result in
    let e = err_from_is_err_and r c.from_residual.ensures.1 in
    record {
      totals = no_ok _ _ r c.from_residual.ensures.1;
      decisions = no_ok _ _ r c.from_residual.ensures.1;
      buffers = no_ok _ _ r c.from_residual.ensures.1;
      rows = no_ok _ _ r c.from_residual.ensures.1;
      memory = not_memory r _ e.1 e.2;
      sink = λ _. hands_up_to t c.length-level-end.ensures.bounded (g.S.LevelSink.spelling (g.S.LevelSink.kind c.args.sink.now)) (g.S.LevelSink.text c.args.sink.now) (g.S.LevelSink.text c.level.new.self) c.loop-level.level c.deref.result.now (omega (arith, c.loop-level-test.true, c.length-level-end.ensures.value)) row_is part;
      refused = (λ _. c.in_err-level.ensures.refused c.loop-level.invariant.ready, λ _. e.1 ∙ ap Err e.2);
      rows_left = no_ok _ _ r c.from_residual.ensures.1;
      row_length = c.level.ensures.row_length ∙ c.loop-level.invariant.row_length;
      kind = c.level.ensures.kind ∙ c.loop-level.invariant.kind;
      kept = c.level.ensures.kept ∙ c.loop-level.invariant.kept;
    }

pub returns-in_err-extend_from_slice : goal.returns-in_err-extend_from_slice
returns-in_err-extend_from_slice g c =
    let t = trellis_of c.args.window.now in
    let row_is : c.deref.result.now ≡ best_row t c.loop-level.level = c.deref.ensures.value ∙ c.loop-level.invariant.row in
    let more = hands_more t g.S.LevelSink.spelling (g.S.LevelSink.kind c.args.sink.now) (g.S.LevelSink.kind c.loop-level.sink) (g.S.LevelSink.text c.args.sink.now) (g.S.LevelSink.text c.loop-level.sink) (g.S.LevelSink.text c.level.new.self) c.loop-level.level c.deref.result.now c.loop-level.invariant.kind row_is c.loop-level.invariant.handed c.in_ok-level.ensures.ok in
    let r = c.from_residual-in_err-extend_from_slice.result in
    let e = err_from_is_err_and r c.from_residual-in_err-extend_from_slice.ensures.1 in
    record {
      totals = no_ok _ _ r c.from_residual-in_err-extend_from_slice.ensures.1;
      decisions = no_ok _ _ r c.from_residual-in_err-extend_from_slice.ensures.1;
      buffers = no_ok _ _ r c.from_residual-in_err-extend_from_slice.ensures.1;
      rows = no_ok _ _ r c.from_residual-in_err-extend_from_slice.ensures.1;
      memory = λ _. hands_some t c.length-level-end.ensures.bounded (g.S.LevelSink.spelling (g.S.LevelSink.kind c.args.sink.now)) (g.S.LevelSink.text c.args.sink.now) (g.S.LevelSink.text c.level.new.self) (c.loop-level.level + 1) (omega (arith, c.loop-level-test.true, c.length-level-end.ensures.value)) more;
      sink = λ sink. absurd (not_sink r _ e.1 e.2 sink);
      refused = (λ sink. absurd (not_sink r _ e.1 e.2 sink), λ yes. absurd (true_or_false _ yes (c.in_ok-level.ensures.refused c.loop-level.invariant.ready)));
      rows_left = no_ok _ _ r c.from_residual-in_err-extend_from_slice.ensures.1;
      row_length = c.level.ensures.row_length ∙ c.loop-level.invariant.row_length;
      kind = c.level.ensures.kind ∙ c.loop-level.invariant.kind;
      kept = c.level.ensures.kept ∙ c.loop-level.invariant.kept;
    }

pub loop-level-preserved : goal.loop-level-preserved
loop-level-preserved g c =
    let t = trellis_of c.args.window.now in
    let e : c.deref.result.now ≡ best_row t c.loop-level.level = c.deref.ensures.value ∙ c.loop-level.invariant.row in
    let more = hands_more t g.S.LevelSink.spelling (g.S.LevelSink.kind c.args.sink.now) (g.S.LevelSink.kind c.loop-level.sink) (g.S.LevelSink.text c.args.sink.now) (g.S.LevelSink.text c.loop-level.sink) (g.S.LevelSink.text c.level.new.self) c.loop-level.level c.deref.result.now c.loop-level.invariant.kind e c.loop-level.invariant.handed c.in_ok-level.ensures.ok in
    let kept = c.next_row.ensures in
    let inv = c.loop-level.invariant in
    let following = written c.loop-level.room.totals.len c.next_row.new.following c.loop-level.room.totals.items c.loop-level.room.totals.ok.0 (ap length kept.following ∙ row_length t (c.loop-level.level + 1) ∙ sym inv.totals) in
    let as_many : length c.next_row.new.decisions ≡ length c.loop-level.room.decided.items = kept.decisions_length ∙ ap length c.deref_mut-in-loop-level-3.ensures.value in
    let decided = written c.loop-level.room.decided.len c.next_row.new.decisions c.loop-level.room.decided.items c.loop-level.room.decided.ok.0 as_many in
    let part : c.deref-in-loop-level-2.result.now ≡ c.next_row.new.decisions = c.deref-in-loop-level-2.ensures.value ∙ decided in
    let items : c.extend_from_slice.new.self.items ≡ c.loop-level.decisions.items ++ c.next_row.new.decisions = c.in_ok-extend_from_slice.ensures.items ∙ ap (λ r. c.loop-level.decisions.items ++ r) part in
    record {
      steps = written_length c.loop-level.room.steps.len (2 * states t) c.next_row.new.steps c.loop-level.room.steps.items c.loop-level.room.steps.ok.0 (kept.steps_length ∙ ap length c.deref_mut-in-loop-level.ensures.value ∙ inv.steps) inv.steps;
      row = ap (λ v. v.items) c.swap.ensures.x_after ∙ following ∙ kept.following;
      totals = ap (λ v. length v.items) c.swap.ensures.y_after ∙ ap length inv.row ∙ row_length t c.loop-level.level;
      decided = ap length decided ∙ as_many ∙ inv.decided;
      decisions = subst (AreAllDecisions t (c.loop-level.level + 1)) (sym items) (one_more t c.loop-level.level c.loop-level.decisions.items c.next_row.new.decisions inv.decisions (as_many ∙ inv.decided) kept.decisions);
      handed = more;
      left = omega (arith, c.in_ok-level.ensures.rows, inv.left);
      row_length = c.level.ensures.row_length ∙ inv.row_length;
      kind = c.level.ensures.kind ∙ inv.kind;
      kept = c.level.ensures.kept ∙ inv.kept;
      ready = c.in_ok-level.ensures.refused inv.ready;
    }

pub level-requires-2 : goal.level-requires-2
level-requires-2 g c =
    let t = trellis_of c.args.window.now in
    record {
      rows = omega (arith, c.loop-level.invariant.left, c.loop-level.auto.level-end, c.length-level-end.ensures.value, c.requires.rows);
      row = rw (c.deref-2.ensures.value, c.loop-level.invariant.row) (row_length t c.loop-level.level ∙ sym c.requires.row_length ∙ sym c.loop-level.invariant.row_length);
    }

pub returns-in_err-level-2 : goal.returns-in_err-level-2
returns-in_err-level-2 g c =
    let t = trellis_of c.args.window.now in
    let row_is : c.deref-2.result.now ≡ best_row t c.loop-level.level = c.deref-2.ensures.value ∙ c.loop-level.invariant.row in
    let part = hands_front t g.S.LevelSink.spelling (g.S.LevelSink.kind c.args.sink.now) (g.S.LevelSink.kind c.loop-level.sink) (g.S.LevelSink.text c.args.sink.now) (g.S.LevelSink.text c.loop-level.sink) (g.S.LevelSink.text c.level-2.new.self) c.loop-level.level c.deref-2.result.now c.loop-level.invariant.kind row_is c.loop-level.invariant.handed c.in_err-level-2.ensures.err in
    let r = c.from_residual-in_err-level-2.result in
    let e = err_from_is_err_and r c.from_residual-in_err-level-2.ensures.1 in
    record {
      totals = no_ok _ _ r c.from_residual-in_err-level-2.ensures.1;
      decisions = no_ok _ _ r c.from_residual-in_err-level-2.ensures.1;
      buffers = no_ok _ _ r c.from_residual-in_err-level-2.ensures.1;
      rows = no_ok _ _ r c.from_residual-in_err-level-2.ensures.1;
      memory = not_memory r _ e.1 e.2;
      sink = λ _. hands_up_to t c.length-level-end.ensures.bounded (g.S.LevelSink.spelling (g.S.LevelSink.kind c.args.sink.now)) (g.S.LevelSink.text c.args.sink.now) (g.S.LevelSink.text c.level-2.new.self) c.loop-level.level c.deref-2.result.now (omega (arith, c.loop-level-test.false, c.length-level-end.ensures.value)) row_is part;
      refused = (λ _. c.in_err-level-2.ensures.refused c.loop-level.invariant.ready, λ _. e.1 ∙ ap Err e.2);
      rows_left = no_ok _ _ r c.from_residual-in_err-level-2.ensures.1;
      row_length = c.level-2.ensures.row_length ∙ c.loop-level.invariant.row_length;
      kind = c.level-2.ensures.kind ∙ c.loop-level.invariant.kind;
      kept = c.level-2.ensures.kept ∙ c.loop-level.invariant.kept;
    }

pub returns : goal.returns
returns g c =
    let t = trellis_of c.args.window.now in
    let all : c.loop-level.level ≡ t.levels = omega (arith, c.loop-level-test.false, c.length-level-end.ensures.value, c.loop-level.auto.level-end) in
    let inv = c.loop-level.invariant in
    let row_is : c.deref-2.result.now ≡ best_row t c.loop-level.level = c.deref-2.ensures.value ∙ c.loop-level.invariant.row in
    let more = hands_more t g.S.LevelSink.spelling (g.S.LevelSink.kind c.args.sink.now) (g.S.LevelSink.kind c.loop-level.sink) (g.S.LevelSink.text c.args.sink.now) (g.S.LevelSink.text c.loop-level.sink) (g.S.LevelSink.text c.level-2.new.self) c.loop-level.level c.deref-2.result.now c.loop-level.invariant.kind row_is c.loop-level.invariant.handed c.in_ok-level-2.ensures.ok in
    record {
      totals = written c.loop-level.room.totals.len c.write_totals.new.totals c.loop-level.room.totals.items c.loop-level.room.totals.ok.0 (ap length c.write_totals.ensures ∙ totals_length t ∙ sym c.loop-level.invariant.totals) ∙ c.write_totals.ensures;
      decisions = subst (λ n. AreAllDecisions t n c.loop-level.decisions.items) all c.loop-level.invariant.decisions;
      buffers = record {
        steps = inv.steps;
        row = ap length inv.row ∙ row_length t c.loop-level.level;
        totals = written_length c.loop-level.room.totals.len (states t) c.write_totals.new.totals c.loop-level.room.totals.items c.loop-level.room.totals.ok.0 (ap length c.write_totals.ensures ∙ totals_length t) inv.totals;
        decided = inv.decided;
      };
      rows = hands_all t c.length-level-end.ensures.bounded (g.S.LevelSink.spelling (g.S.LevelSink.kind c.args.sink.now)) (g.S.LevelSink.text c.args.sink.now) (g.S.LevelSink.text c.level-2.new.self) c.loop-level.level (omega (arith, c.length-level-end.ensures.value)) more;
      memory = not_refused tt Memory;
      sink = not_refused tt Sink;
      refused = (not_refused tt Sink, λ yes. absurd (true_or_false _ yes (c.in_ok-level-2.ensures.refused c.loop-level.invariant.ready)));
      rows_left = omega (arith, c.in_ok-level-2.ensures.rows, c.loop-level.invariant.left, c.loop-level-test.false, c.loop-level.auto.level-end, c.length-level-end.ensures.value);
      row_length = c.level-2.ensures.row_length ∙ c.loop-level.invariant.row_length;
      kind = c.level-2.ensures.kind ∙ c.loop-level.invariant.kind;
      kept = c.level-2.ensures.kept ∙ c.loop-level.invariant.kept;
    }

pub loop-level-init : goal.loop-level-init
loop-level-init g c =
    let room = c.args.room.now in
    let t = trellis_of c.args.window.now in
    let long : length c.write_first_row.new.row ≡ length room.row.items = ap length c.write_first_row.ensures ∙ row_length t 0 ∙ sym c.requires.buffers.row in
    record {
      steps = c.requires.buffers.steps;
      row = written room.row.len c.write_first_row.new.row room.row.items room.row.ok.0 long ∙ c.write_first_row.ensures;
      totals = c.requires.buffers.totals;
      decided = c.requires.buffers.decided;
      decisions = rw c.requires.none (record { long = omega arith; each = λ level q below h. absurd (omega arith) });
      handed = Appends-nil (g.S.LevelSink.text c.args.sink.now);
      left = omega arith;
      row_length = refl;
      kind = refl;
      kept = refl;
      ready = c.requires.ready;
    }

pub next_row-requires : goal.next_row-requires
next_row-requires g c = record {
  level = omega (arith, c.loop-level-test.true, c.length-level-end.ensures.value);
  row = c.deref-in-loop-level.ensures.value ∙ c.loop-level.invariant.row;
  steps = ap length c.deref_mut-in-loop-level.ensures.value ∙ c.loop-level.invariant.steps;
  following = ap length c.deref_mut-in-loop-level-2.ensures.value ∙ c.loop-level.invariant.totals;
  decisions = ap length c.deref_mut-in-loop-level-3.ensures.value ∙ c.loop-level.invariant.decided;
}

pub write_totals-requires : goal.write_totals-requires
write_totals-requires g c = record {
  bounded = c.length-level-end.ensures.bounded;
  last = c.deref-3.ensures.value ∙ c.loop-level.invariant.row ∙ ap (best_row (trellis_of c.args.window.now)) (omega (arith, c.loop-level-test.false, c.length-level-end.ensures.value, c.loop-level.auto.level-end));
  totals = ap length c.deref_mut-2.ensures.value ∙ c.loop-level.invariant.totals;
}

pub write_first_row-requires : goal.write_first_row-requires
write_first_row-requires g c = ap length c.deref_mut.ensures.value ∙ c.requires.buffers.row
