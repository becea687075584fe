use Rattle.std.proofs.Common.{◌≡◌, ◌∙◌, ◌+◌, ◌++◌, ◌∷◌, [], Bool, Global, List, Ok, Err, Vec, ap, arith, get_or, length, map, refl, subst, sym}
use Rattle.std.proofs.lemmas.List.{get_or_read_under, map-append}
use Rattle.dsd_bits.proofs.ExitLaws.{no_value}
use Rattle.null_core.specs.declared.stretch.Stretch.{Stretch}
use Rattle.null_core.specs.Judging.{judged_items}
use Rattle.null_core.specs.Reading.{JudgesChannelOf}
use Rattle.null_core.specs.Verdicts.{AreJudgedTo}
use Rattle.null_core.proofs.VerdictLaws.{more_judged, none_judged}
use Rattle.null_core.proofs.verdict.judge_channels.Goals as goal
use Rattle.null_core.proofs.verdict.judge_channels.Given.{Over}
use Rattle.null_core.proofs.verdict.judge_channels.Goals.{In_ok-found}

abbrev items : Vec Stretch Global → List Stretch
items found = found.items

bits_are : (g : Over) (c : In_ok-found g) → c.index-channels-channel.result ≡ get_or c.args.channels.now c.loop-channel.channel []
bits_are g c = get_or_read_under c.args.channels.now c.loop-channel.channel (length c.args.channels.now) c.index-channels-channel.result [] c.index-channels-channel.is c.loop-channel-test.true refl

pub loop-channel-init : goal.loop-channel-init
loop-channel-init g c = rw c.new-stretches.ensures.items (none_judged c.args.mixed.now c.args.channels.now)

pub loop-channel-preserved : goal.loop-channel-preserved
loop-channel-preserved g c =
    let here = (goal.at.loop-channel-preserved g c).In_ok-found in
    let pushed = ap (map items) {y = c.loop-channel.stretches.items ++ c.in-Ok.found ∷ []} c.in_ok-push-in-Ok.ensures.items ∙ map-append items c.loop-channel.stretches.items (c.in-Ok.found ∷ []) in
    subst (AreJudgedTo c.args.mixed.now c.args.channels.now (c.loop-channel.channel + 1)) (sym pushed)
    (more_judged c.args.mixed.now c.args.channels.now c.loop-channel.channel (map items c.loop-channel.stretches.items) c.in-Ok.found.items c.loop-channel.invariant
    (subst (λ (bits : List Bool). JudgesChannelOf c.args.mixed.now c.loop-channel.channel bits (Ok c.in-Ok.found.items)) (bits_are g here)
    (subst (λ found. JudgesChannelOf c.args.mixed.now c.loop-channel.channel c.index-channels-channel.result (judged_items found)) c.in-Ok.is c.in_ok-found.ensures)))

pub returns-in-Err : goal.returns-in-Err
returns-in-Err g c =
    let here = (goal.at.returns-in-Err g c).In_ok-found in
    record {
      there = c.loop-channel-test.true;
      first = subst (λ (bits : List Bool). JudgesChannelOf c.args.mixed.now c.loop-channel.channel bits (Err c.in-Err.place)) (bits_are g here)
          (subst (λ found. JudgesChannelOf c.args.mixed.now c.loop-channel.channel c.index-channels-channel.result (judged_items found)) c.in-Err.is c.in_ok-found.ensures);
      before = map items c.loop-channel.stretches.items;
      judged = c.loop-channel.invariant;
    }

pub returns-in_err-found : goal.returns-in_err-found
returns-in_err-found g c = no_value _ _ c.from_residual.result c.from_residual.ensures.1

pub returns-in_err-push-in-Ok : goal.returns-in_err-push-in-Ok
returns-in_err-push-in-Ok g c = no_value _ _ c.from_residual-in_err-push-in-Ok.result c.from_residual-in_err-push-in-Ok.ensures.1

pub returns : goal.returns
returns g c =
    let end : c.loop-channel.channel ≡ length c.args.channels.now = omega (arith, c.loop-channel-test.false, c.loop-channel.auto.channel-end) in
    subst (λ n. AreJudgedTo c.args.mixed.now c.args.channels.now n (map items c.loop-channel.stretches.items)) end c.loop-channel.invariant
