use Rattle.std.proofs.Common.{◌≡◌, ◌+◌, arith, inl, inr, subst}
use Rattle.std.proofs.lemmas.Bool.{cases_lt}
use Rattle.std.proofs.lemmas.List.Sums.{sum_by_more}
use Rattle.cut_core.specs.Cuts.{cue_at, span}
use Rattle.judge_core.specs.Comparing.{IsOffAt, cue_start}
use Rattle.judge_core.proofs.OffLaws.{first_of_all}
use Rattle.judge_core.proofs.cueing.first_off.Goals as goal

pub returns-in-Some : goal.returns-in-Some
returns-in-Some c = first_of_all c.args.cut.now c.can_cut.ensures c.args.channel c.args.done c.args.part.now c.loop-cue.cue c.in-Some.place c.requires.channel (omega (arith, c.cue_number-cue-end.ensures.value)) c.loop-cue.invariant.none c.in-Some.ensures

pub loop-cue-preserved : goal.loop-cue-preserved
loop-cue-preserved c =
    let cut = c.args.cut.now in
    let cue = c.loop-cue.cue in
    let so_far = c.loop-cue.invariant in
    let sums : cue_start cut (cue + 1) ≡ cue_start cut cue + span (cue_at cut cue) = sum_by_more span cut.splice.cues cue _ (omega (arith, c.loop-cue-test.true, c.cue_number-cue-end.ensures.value)) in
    record {
      start = omega (arith, so_far.start, c.span-start.ensures.value, sums);
      bound = omega (arith, so_far.bound, c.span-start.ensures.bound);
      none = λ i lt p off. elim (cases_lt i cue) [
        | inl below ↦ so_far.none i below p off
        | inr past ↦ (
            let here : i ≡ cue = omega (arith, lt, past) in
            c.in_default.ensures p (subst (λ n. IsOffAt cut c.args.channel n c.args.done c.args.part.now p) here off)
            )
      ];
    }

pub returns : goal.returns
returns c = λ place off. c.loop-cue.invariant.none off.0 (omega (arith, off.1, c.loop-cue-test.false, c.cue_number-cue-end.ensures.value)) place off.2
