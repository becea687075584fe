use Rattle.std.proofs.Common.{[], Global, List, Vec, map, subst, sym}
use Rattle.std.proofs.lemmas.Result.{IfOk-weaker}
use Rattle.null_core.specs.Candidates.{HoldsCandidate, IsHeardOf}
use Rattle.null_core.specs.Verdicts.{IsVerdictOn}
use Rattle.null_core.specs.declared.stretch.Stretch.{Stretch}
use Rattle.null_core.proofs.master_reading.judge_candidate.Goals as goal

abbrev items : Vec Stretch Global → List Stretch
items found = found.items

pub returns-in-Fitting : goal.returns-in-Fitting
returns-in-Fitting g c = λ file holds.
    let held = subst (HoldsCandidate c.args.mixed.now file) c.in-Fitting.is holds in
    IfOk-weaker c.judge.result _ (IsHeardOf c.args.mixed.now file) (λ heard is. (c.in-Fitting.master, held, is)) c.judge.ensures.verdict

pub returns-in-Misfit : goal.returns-in-Misfit
returns-in-Misfit g c = λ file holds.
    let mixed = c.args.mixed.now in
    let heard = c.unheard.result in
    let held = subst (HoldsCandidate mixed file) c.in-Misfit.is holds in (
      held.0,
      held.1,
      subst (λ (stretches : List (Vec Stretch Global)). IsVerdictOn mixed held.0 (map items stretches) heard.verdict) (sym c.unheard.ensures.stretches)
          (subst (IsVerdictOn mixed held.0 []) (sym c.unheard.ensures.verdict) held.2),
    )
