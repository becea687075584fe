use Rattle.std.proofs.Common.{◌≡◌, ◌∙◌, [], Bool, Global, List, Vec, ap, length, map, subst, sym}
use Rattle.null_core.specs.declared.stretch.Stretch.{Stretch}
use Rattle.null_core.specs.declared.verdict.Verdict.TheVariants.{TooLoud}
use Rattle.null_core.specs.Verdicts.{AreJudgedTo, IsFirstLoud, IsVerdictBy, IsVerdictOn, JudgesAll, found_lists}
use Rattle.null_core.proofs.HeardLaws.{accepts_exactly, heard_by, heard_loud}
use Rattle.null_core.proofs.verdict.judge.Goals as goal
use Rattle.null_core.proofs.verdict.judge.Given.{Over}
use Rattle.null_core.proofs.verdict.judge.Goals.{After-unheard, After-unheard-in-Err, After-verdict_by-verdict}

abbrev items : Vec Stretch Global → List Stretch
items found = found.items

pub judge_channels-requires : goal.judge_channels-requires
judge_channels-requires g c = ap length c.channels.ensures ∙ (c.misfit.ensures.fits c.in_default.is c.args.master.now (record { is_silent = c.recording.ensures; count_is = c.count.ensures.value })).alike.as_many_channels

heard : (g : Over) (c : After-verdict_by-verdict g) → IsVerdictOn c.args.mixed.now c.args.master.now (map items c.in-Ok.stretches.items) c.verdict_by-verdict.result
heard g c =
    let mixed = c.args.mixed.now in
    let lists = map items c.in-Ok.stretches.items in
    let verdict = c.verdict_by-verdict.result in
    heard_by mixed c.args.master.now (c.misfit.ensures.fits c.in_default.is c.args.master.now (record { is_silent = c.recording.ensures; count_is = c.count.ensures.value })) lists
    (subst (λ (zs : List (List Bool)). AreJudgedTo mixed zs (length zs) lists) c.channels.ensures (subst (λ found. JudgesAll mixed c.channels.result.now (found_lists found)) c.in-Ok.is c.in_ok-stretches.ensures))
    verdict
    (subst (λ (stretches : List (Vec Stretch Global)). IsVerdictBy mixed.mix.limit (map items stretches) verdict) c.deref.ensures.value (subst (λ limit. IsVerdictBy limit (map items c.deref.result.now) verdict) c.limit.ensures c.verdict_by-verdict.ensures))

pub returns-in-Ok : goal.returns-in-Ok
returns-in-Ok g c =
    let is = heard g (goal.at.returns-in-Ok g c).After-verdict_by-verdict in
    record { verdict = is; exact = accepts_exactly c.args.mixed.now c.args.master.now (map items c.in-Ok.stretches.items) c.verdict_by-verdict.result is }

loud : (g : Over) (c : After-unheard-in-Err g) → IsVerdictOn c.args.mixed.now c.args.master.now (map items c.unheard-in-Err.result.stretches.items) c.unheard-in-Err.result.verdict
loud g c =
    let mixed = c.args.mixed.now in
    let loud = c.in-Err.field-0 in
    let first = subst (λ (zs : List (List Bool)). IsFirstLoud mixed zs loud) c.channels.ensures (subst (λ found. JudgesAll mixed c.channels.result.now (found_lists found)) c.in-Err.is c.in_ok-stretches.ensures) in
    let verdict : TooLoud loud.channel loud.place ≡ c.unheard-in-Err.result.verdict = sym c.unheard-in-Err.ensures.verdict in
    subst (λ (stretches : List (Vec Stretch Global)). IsVerdictOn mixed c.args.master.now (map items stretches) c.unheard-in-Err.result.verdict) (sym c.unheard-in-Err.ensures.stretches)
    (subst (IsVerdictOn mixed c.args.master.now []) verdict (heard_loud mixed c.args.master.now (c.misfit.ensures.fits c.in_default.is c.args.master.now (record { is_silent = c.recording.ensures; count_is = c.count.ensures.value })) loud first))

pub returns-in-Err : goal.returns-in-Err
returns-in-Err g c =
    let is = loud g (goal.at.returns-in-Err g c).After-unheard-in-Err in
    record { verdict = is; exact = accepts_exactly c.args.mixed.now c.args.master.now (map items c.unheard-in-Err.result.stretches.items) c.unheard-in-Err.result.verdict is }

misfitting : (g : Over) (c : After-unheard g) → IsVerdictOn c.args.mixed.now c.args.master.now (map items c.unheard.result.stretches.items) c.unheard.result.verdict
misfitting g c =
    subst (λ (stretches : List (Vec Stretch Global)). IsVerdictOn c.args.mixed.now c.args.master.now (map items stretches) c.unheard.result.verdict) (sym c.unheard.ensures.stretches)
    (subst (IsVerdictOn c.args.mixed.now c.args.master.now []) (sym c.unheard.ensures.verdict) (c.in-Some.ensures.verdict c.args.master.now (record { is_silent = c.recording.ensures; count_is = c.count.ensures.value })))

pub returns-in-Some : goal.returns-in-Some
returns-in-Some g c =
    let is = misfitting g (goal.at.returns-in-Some g c).After-unheard in
    record { verdict = is; exact = accepts_exactly c.args.mixed.now c.args.master.now (map items c.unheard.result.stretches.items) c.unheard.result.verdict is }
