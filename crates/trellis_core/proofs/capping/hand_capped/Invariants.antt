-- The row of this level was made, and those below it were handed over, capped.
use Rattle.std.proofs.Common.{◌≡◌, ◌+◌, ◌*◌, length, false}
use Rattle.cost_core.specs.Trellis.{states}
use Rattle.cost_core.specs.StateCosts.{trellis_of}
use Rattle.cost_core.specs.Sinks.{HandsOver}
use Rattle.trellis_core.specs.Best.{best_row, best_rows}
use Rattle.trellis_core.specs.Decisions.{decision_bytes}
use Rattle.trellis_core.specs.Handing.{capped_spelling}
use Rattle.trellis_core.proofs.capping.hand_capped.Given as goal

abbrev pub invariant-loop-level : goal.invariant-loop-level
invariant-loop-level g l =
    let t = trellis_of l.window in
    record {
      steps : length l.room.steps.items ≡ 2 * states t;
      row : l.room.row.items ≡ best_row t l.level;
      totals : length l.room.totals.items ≡ states t;
      decided : length l.room.decided.items ≡ decision_bytes (states t);
      handed : HandsOver (capped_spelling l.cost (g.S.LevelSink.spelling (g.S.LevelSink.kind l.initial.sink))) (g.S.LevelSink.text l.initial.sink) (g.S.LevelSink.text l.sink) (best_rows t l.level);
      left : g.S.LevelSink.rows_left l.sink + l.level ≡ g.S.LevelSink.rows_left l.initial.sink;
      row_length : g.S.LevelSink.row_length l.sink ≡ g.S.LevelSink.row_length l.initial.sink;
      kind : g.S.LevelSink.kind l.sink ≡ g.S.LevelSink.kind l.initial.sink;
      kept : g.S.LevelSink.kept l.sink ≡ g.S.LevelSink.kept l.initial.sink;
      ready : g.S.LevelSink.has_refused l.sink ≡ false;
    }
