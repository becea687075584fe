use Rattle.std.proofs.Common.{Err, ap, refl, subst, ◌∙◌}
use Rattle.std.proofs.lemmas.Result.{err_from_is_err_and}
use Rattle.dsd_bits.proofs.ExitLaws.{no_ok, no_value}
use Rattle.cost_core.specs.StateCosts.{trellis_of}
use Rattle.trellis_core.specs.Handing.{HandsOverUpTo, capped_spelling}
use Rattle.trellis_core.specs.declared.fault.BridgeFault.TheVariants.{Memory, Sink}
use Rattle.trellis_core.proofs.FaultLaws.{not_memory, not_refused, not_sink, true_or_false}
use Rattle.trellis_core.proofs.bridging.bridge_capped_into.Goals as goal

pub returns : goal.returns
returns g c = record {
  first_least = c.in_ok-chosen.ensures.first_least;
  cost = c.in_ok-chosen.ensures.cost;
  rows = c.in_ok-hand_capped.ensures.ok;
  memory = not_refused _ Memory;
  sink = not_refused _ Sink;
  refused = (not_refused _ Sink, λ yes. absurd (true_or_false _ yes c.in_ok-hand_capped.ensures.refused));
  rows_left = c.in_ok-hand_capped.ensures.rows_left;
  row_length = c.hand_capped.ensures.row_length;
  kind = c.hand_capped.ensures.kind;
  kept = c.hand_capped.ensures.kept;
}

-- ---- where the sink refused
pub returns-in_err-hand_capped : goal.returns-in_err-hand_capped
returns-in_err-hand_capped g c =
    let spelling = g.S.LevelSink.spelling (g.S.LevelSink.kind c.args.sink.now) in
    let r = c.from_residual-in_err-hand_capped.result in
    let e = err_from_is_err_and r c.from_residual-in_err-hand_capped.ensures.1 in
    record {
      first_least = no_value _ _ r c.from_residual-in_err-hand_capped.ensures.1;
      cost = no_value _ _ r c.from_residual-in_err-hand_capped.ensures.1;
      rows = no_value _ _ r c.from_residual-in_err-hand_capped.ensures.1;
      memory = not_memory r _ e.1 e.2;
      sink = λ _. (
        c.in_ok-chosen.chosen.bits,
        c.in_ok-chosen.ensures.first_least.is_least,
        subst (λ cost. HandsOverUpTo (trellis_of c.args.window.now) (capped_spelling cost spelling) (g.S.LevelSink.text c.args.sink.now) (g.S.LevelSink.text c.hand_capped.new.sink)) c.in_ok-chosen.ensures.cost c.in_err-hand_capped.ensures.err,
      );
      refused = (λ _. c.in_err-hand_capped.ensures.refused, λ _. e.1 ∙ ap Err e.2);
      rows_left = no_ok _ _ r c.from_residual-in_err-hand_capped.ensures.1;
      row_length = c.hand_capped.ensures.row_length;
      kind = c.hand_capped.ensures.kind;
      kept = c.hand_capped.ensures.kept;
    }

-- ---- which fault it is, and what is left of the sink
pub returns-in_default : goal.returns-in_default
returns-in_default g c = record {
  first_least = tt;
  cost = tt;
  rows = tt;
  memory = λ _. refl;
  sink = λ is. absurd (not_sink _ Memory refl refl is);
  refused = (λ is. absurd (not_sink _ Memory refl refl is), λ yes. absurd (true_or_false _ yes c.requires.ready));
  rows_left = tt;
  row_length = refl;
  kind = refl;
  kept = refl;
}

pub returns-in_err-chosen : goal.returns-in_err-chosen
returns-in_err-chosen g c =
    let r = c.from_residual.result in
    let e = err_from_is_err_and r c.from_residual.ensures.1 in
    record {
      first_least = no_value _ _ r c.from_residual.ensures.1;
      cost = no_value _ _ r c.from_residual.ensures.1;
      rows = no_value _ _ r c.from_residual.ensures.1;
      memory = λ _. refl;
      sink = λ is. absurd (not_sink r _ e.1 e.2 is);
      refused = (λ is. absurd (not_sink r _ e.1 e.2 is), λ yes. absurd (true_or_false _ yes c.requires.ready));
      rows_left = no_ok _ _ r c.from_residual.ensures.1;
      row_length = refl;
      kind = refl;
      kept = refl;
    }

pub hand_capped-requires : goal.hand_capped-requires
hand_capped-requires g c = record {
  buffers = c.in-Ok.ensures.buffers;
  rows = c.requires.rows;
  row_length = c.requires.row_length;
  ready = c.requires.ready;
}

pub choose-requires : goal.choose-requires
choose-requires g c = record {
  totals = c.in-Ok.ensures.totals;
  decisions = c.in-Ok.ensures.decisions;
}
