use Rattle.std.proofs.Common.{refl}
use Rattle.std.proofs.lemmas.Result.{err_from_is_err_and}
use Rattle.dsd_bits.proofs.ExitLaws.{no_ok, no_value}
use Rattle.cost_core.specs.StateCosts.{trellis_of}
use Rattle.trellis_core.specs.declared.fault.BridgeFault.TheVariants.{Memory, Sink}
use Rattle.trellis_core.proofs.FaultLaws.{fault_after, fault_before, not_refused, not_sink, true_or_false}
use Rattle.trellis_core.proofs.HandedOver.{hands_none}
use Rattle.trellis_core.proofs.rows.forward.Goals as goal

pub returns-in_err-searched : goal.returns-in_err-searched
returns-in_err-searched g c =
    let r = c.from_residual.result in
    let e = err_from_is_err_and r c.from_residual.ensures.1 in
    record {
      totals = no_value _ _ r c.from_residual.ensures.1;
      buffers = no_value _ _ r c.from_residual.ensures.1;
      decisions = no_value _ _ r c.from_residual.ensures.1;
      rows = no_ok _ _ r c.from_residual.ensures.1;
      memory = λ _. hands_none (trellis_of c.args.window.now) c.make_room.ensures.bounded (g.S.LevelSink.spelling (g.S.LevelSink.kind c.args.sink.now)) (g.S.LevelSink.text c.args.sink.now);
      sink = λ sink. absurd (not_sink r _ e.1 e.2 sink);
      refused = (λ sink. absurd (not_sink r _ e.1 e.2 sink), λ yes. absurd (true_or_false _ yes c.requires.ready));
      rows_left = no_ok _ _ r c.from_residual.ensures.1;
      row_length = refl;
      kind = refl;
      kept = refl;
    }

-- ---- which fault it is, and what is left of the sink
pub returns-in_err-search : goal.returns-in_err-search
returns-in_err-search g c =
    let r = c.from_residual-in_err-search.result in
    let e = err_from_is_err_and r c.from_residual-in_err-search.ensures.1 in
    record {
      totals = no_value _ _ r c.from_residual-in_err-search.ensures.1;
      buffers = no_value _ _ r c.from_residual-in_err-search.ensures.1;
      decisions = no_value _ _ r c.from_residual-in_err-search.ensures.1;
      rows = no_ok _ _ r c.from_residual-in_err-search.ensures.1;
      memory = λ is. c.in_err-search.ensures.memory (fault_before r _ _ Memory e.1 e.2 is);
      sink = λ is. c.in_err-search.ensures.sink (fault_before r _ _ Sink e.1 e.2 is);
      refused = (λ is. c.in_err-search.ensures.refused.0 (fault_before r _ _ Sink e.1 e.2 is), λ yes. fault_after r _ _ Sink e.1 e.2 (c.in_err-search.ensures.refused.1 yes));
      rows_left = no_ok _ _ r c.from_residual-in_err-search.ensures.1;
      row_length = c.search.ensures.row_length;
      kind = c.search.ensures.kind;
      kept = c.search.ensures.kept;
    }

pub returns : goal.returns
returns g c = record {
  totals = c.in_ok-search.ensures.totals;
  buffers = c.in_ok-search.ensures.buffers;
  decisions = c.in_ok-search.ensures.decisions;
  rows = c.in_ok-search.ensures.rows;
  memory = not_refused _ Memory;
  sink = not_refused _ Sink;
  refused = (not_refused _ Sink, λ yes. not_refused _ Sink (c.in_ok-search.ensures.refused.1 yes));
  rows_left = c.in_ok-search.ensures.rows_left;
  row_length = c.search.ensures.row_length;
  kind = c.search.ensures.kind;
  kept = c.search.ensures.kept;
}

pub search-requires : goal.search-requires
search-requires g c = record {
  buffers = c.in_ok-searched.ensures.buffers;
  none = c.in_ok-searched.ensures.none;
  rows = c.requires.rows;
  row_length = c.requires.row_length;
  ready = c.requires.ready;
}
