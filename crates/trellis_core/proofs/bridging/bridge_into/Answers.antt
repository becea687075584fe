use Rattle.std.proofs.lemmas.Result.{err_from_is_err_and}
use Rattle.dsd_bits.proofs.ExitLaws.{no_ok, no_value}
use Rattle.cost_core.specs.StateCosts.{trellis_of}
use Rattle.trellis_core.specs.declared.fault.BridgeFault.TheVariants.{Memory, Sink}
use Rattle.trellis_core.proofs.FaultLaws.{fault_after, fault_before, not_refused, not_sink}
use Rattle.trellis_core.proofs.HandedOver.{some_of_all}
use Rattle.trellis_core.proofs.bridging.bridge_into.Goals as goal

pub returns-in_err-choose : goal.returns-in_err-choose
returns-in_err-choose g c =
    let r = c.from_residual-in_err-choose.result in
    let e = err_from_is_err_and r c.from_residual-in_err-choose.ensures.1 in
    record {
      first_least = no_value _ _ r c.from_residual-in_err-choose.ensures.1;
      cost = no_value _ _ r c.from_residual-in_err-choose.ensures.1;
      rows = no_ok _ _ r c.from_residual-in_err-choose.ensures.1;
      memory = λ _.
          some_of_all (trellis_of c.args.window.now) (g.S.LevelSink.spelling (g.S.LevelSink.kind c.args.sink.now)) (g.S.LevelSink.text c.args.sink.now) (g.S.LevelSink.text c.forward.new.sink) c.in_ok-searched.ensures.rows;
      sink = λ is. absurd (not_sink r _ e.1 e.2 is);
      refused = (λ is. absurd (not_sink r _ e.1 e.2 is), λ yes. not_refused _ Sink (c.in_ok-searched.ensures.refused.1 yes));
      rows_left = no_ok _ _ r c.from_residual-in_err-choose.ensures.1;
      row_length = c.forward.ensures.row_length;
      kind = c.forward.ensures.kind;
      kept = c.forward.ensures.kept;
    }

pub returns : goal.returns
returns g c = record {
  first_least = c.in_ok-choose.ensures.first_least;
  cost = c.in_ok-choose.ensures.cost;
  rows = c.in_ok-searched.ensures.rows;
  memory = not_refused _ Memory;
  sink = not_refused _ Sink;
  refused = (not_refused _ Sink, λ yes. not_refused _ Sink (c.in_ok-searched.ensures.refused.1 yes));
  rows_left = c.in_ok-searched.ensures.rows_left;
  row_length = c.forward.ensures.row_length;
  kind = c.forward.ensures.kind;
  kept = c.forward.ensures.kept;
}

-- ---- which fault it is, and what is left of the sink
pub returns-in_err-searched : goal.returns-in_err-searched
returns-in_err-searched g c =
    let r = c.from_residual.result in
    let e = err_from_is_err_and r c.from_residual.ensures.1 in
    record {
      first_least = no_value _ _ r c.from_residual.ensures.1;
      cost = no_value _ _ r c.from_residual.ensures.1;
      rows = no_ok _ _ r c.from_residual.ensures.1;
      memory = λ is. c.in_err-searched.ensures.memory (fault_before r _ _ Memory e.1 e.2 is);
      sink = λ is. c.in_err-searched.ensures.sink (fault_before r _ _ Sink e.1 e.2 is);
      refused = (λ is. c.in_err-searched.ensures.refused.0 (fault_before r _ _ Sink e.1 e.2 is), λ yes. fault_after r _ _ Sink e.1 e.2 (c.in_err-searched.ensures.refused.1 yes));
      rows_left = no_ok _ _ r c.from_residual.ensures.1;
      row_length = c.forward.ensures.row_length;
      kind = c.forward.ensures.kind;
      kept = c.forward.ensures.kept;
    }

pub choose-requires : goal.choose-requires
choose-requires g c = record {
  totals = c.in_ok-searched.ensures.totals;
  decisions = c.in_ok-searched.ensures.decisions;
}

pub forward-requires : goal.forward-requires
forward-requires g c = record {
  rows = c.requires.rows;
  row_length = c.requires.row_length;
  ready = c.requires.ready;
}
