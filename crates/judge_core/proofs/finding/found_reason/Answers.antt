use Rattle.std.proofs.Common.{◌≡◌, ◌∙◌, None, Some, ap, subst, sym}
use Rattle.std.proofs.lemmas.Result.{err_from_is_err_and}
use Rattle.std.specs.Prelude.{MatchOption}
use Rattle.judge_core.specs.Checking.{IsLike, OuterReason}
use Rattle.judge_core.specs.declared.finding.CuedPlace.{CuedPlace}
use Rattle.request_core.specs.declared.reason.Reason.{Reason}
use Rattle.judge_core.proofs.FoundLaws.{found_kept, found_none, found_outer, found_some}
use Rattle.judge_core.proofs.JudgeLaws.{some_is}
use Rattle.judge_core.proofs.finding.found_reason.Goals as goal
use Rattle.judge_core.proofs.finding.found_reason.Goals.{In_default}

-- a reason that is there
some_not : (reason : Reason) → Some reason ≡ None → ⊥
some_not reason e = cc

-- where none contradicts the rest
like : (c : In_default) → IsLike c.args.cut.now c.args.found.now.form c.args.found.now.recording c.args.found.now.count
like c = subst (λ k. MatchOption k (IsLike c.args.cut.now c.args.found.now.form c.args.found.now.recording c.args.found.now.count) (OuterReason c.args.cut.now c.args.found.now.form c.args.found.now.recording c.args.found.now.count)) c.in_default.is c.in_ok-reason.ensures

pub returns-in_err-reason : goal.returns-in_err-reason
returns-in_err-reason c =
    let e = err_from_is_err_and c.from_residual.result c.from_residual.ensures.1 in
    record {
      reason = λ r is. rw e.1 tt;
      kept = rw e.1 tt;
    }

pub returns-in-Some : goal.returns-in-Some
returns-in-Some c = record {
  reason = λ r is.
      found_outer c.args.cut.now c.args.found.now r is c.in-Some.reason (some_is _ _ c.in_ok-reason.field-0 c.in-Some.reason c.in-Some.is c.in_ok-reason.ensures);
  kept = λ none. absurd (some_not _ none);
}

pub returns-in-Some-differs : goal.returns-in-Some-differs
returns-in-Some-differs c = record {
  reason = λ r is.
      rw (c.in-Some-differs.channel-is, c.in-Some-differs.place-is, sym c.in-Some-differs.channel-is ∙ ap (λ (p : CuedPlace). p.channel) c.in-Some-differs.field-0-is, sym c.in-Some-differs.place-is ∙ ap (λ (p : CuedPlace). p.place) c.in-Some-differs.field-0-is) (found_some c.args.cut.now c.args.found.now r is (like (goal.at.returns-in-Some-differs c).In_default) c.in-Some-differs.field-0 c.in-Some-differs.is);
  kept = λ none. absurd (some_not _ none);
}

pub returns-in-None : goal.returns-in-None
returns-in-None c = record {
  reason = λ r is. found_none c.args.cut.now c.args.found.now r is (like (goal.at.returns-in-None c).In_default) c.in-None.is;
  kept = λ none. found_kept c.args.cut.now c.args.found.now c.requires.0 c.requires.1 (like (goal.at.returns-in-None c).In_default);
}
