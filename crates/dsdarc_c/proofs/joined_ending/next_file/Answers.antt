use Rattle.std.proofs.Common.{◌∙◌, ◌++◌, [], append-nil, subst, sym}
use Rattle.joined_core.specs.Givers.{HasGiven}
use Rattle.dsdarc_c.specs.Joined.{IsAtJoin, joined_waiting}
use Rattle.dsdarc_c.specs.declared.joined.JoinStage.TheVariants as joins
use Rattle.dsdarc_c.proofs.JoinedLaws.{stage_is}
use Rattle.dsdarc_c.proofs.joined_ending.next_file.Goals as goal

pub returns-in_ok-judge-in-Giving-clause-plays : goal.returns-in_ok-judge-in-Giving-clause-plays
returns-in_ok-judge-in-Giving-clause-plays c way before file pulled plays long =
    let p = c.args.p.now in
    let is = sym c.replace.ensures.value ∙ c.in-Giving.is in
    let at = subst (λ s. IsAtJoin s p) is c.requires.stage in
    let w = stage_is way before file pulled p (joins.Giving c.in-Giving.giver) is plays in
    let own = before ++ plays.bits in (
      plays.bits,
      c.in_ok-judge-in-Giving.ensures.own file plays.bits w.0 long at.1 c.requires.layout,
      λ next. record {
        bits = [];
        plays = c.new.ensures.plays next;
        stage = (w.1.0, subst (λ xs. HasGiven xs (pulled ++ joined_waiting p) c.in-Giving.giver) (sym (append-nil own)) w.1.1);
      },
    )
