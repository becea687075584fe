use Rattle.std.proofs.Common.{◌∙◌, ◌++◌, subst, sym}
use Rattle.dsdarc_c.specs.Joined.{IsAtJoin, joined_waiting}
use Rattle.dsdarc_c.specs.declared.joined.JoinStage.TheVariants as joins
use Rattle.dsdarc_c.proofs.JoinedLaws.{add_own, failed_joined, own_first, so_far, stage_is}
use Rattle.dsdarc_c.proofs.joined_ending.end_joined.Goals as goal

pub returns-in_ok-judge-in-Giving-clause-ends : goal.returns-in_ok-judge-in-Giving-clause-ends
returns-in_ok-judge-in-Giving-clause-ends c way before file pulled plays long going =
    let p = c.args.p.now in
    let is = sym c.replace.ensures.value ∙ c.in-Giving.is in
    let at = subst (λ s. IsAtJoin s p) is c.requires.stage in
    let w = stage_is way before file pulled p (joins.Giving c.in-Giving.giver) is plays in
    add_own way before file pulled p.bare.stage plays.bits c.give_last.new.p c.give_last.result (c.in_ok-judge-in-Giving.ensures.own file plays.bits w.0 long at.1 c.requires.layout) (c.give_last.ensures.ends way (before ++ plays.bits) pulled w.1.0 w.1.1)

pub returns-in_ok-judge-in-Giving-clause-plays : goal.returns-in_ok-judge-in-Giving-clause-plays
returns-in_ok-judge-in-Giving-clause-plays c way before file pulled plays =
    let p = c.args.p.now in
    let w = stage_is way before file pulled p (joins.Giving c.in-Giving.giver) (sym c.replace.ensures.value ∙ c.in-Giving.is) plays in
    c.give_last.ensures.plays way before file plays.bits pulled (own_first p.bare file plays.bits c.requires.bare c.requires.layout w.0) w.1.0 w.1.1

pub returns-in_err-judge-in-Giving-clause-plays : goal.returns-in_err-judge-in-Giving-clause-plays
returns-in_err-judge-in-Giving-clause-plays c way before file pulled plays =
    let p = c.args.p.now in
    let g = c.in-Giving.giver in
    let is = sym c.replace.ensures.value ∙ c.in-Giving.is in
    let at = subst (λ s. IsAtJoin s p) is c.requires.stage in
    let w = stage_is way before file pulled p (joins.Giving g) is plays in
    failed_joined way before file pulled _ c.replace.ensures.after (so_far way before file plays.bits (pulled ++ joined_waiting p) g at.0 (own_first p.bare file plays.bits c.requires.bare c.requires.layout w.0) w.1.0 w.1.1)

pub returns-in-Err-clause-plays : goal.returns-in-Err-clause-plays
returns-in-Err-clause-plays c way before file pulled plays =
    let w = stage_is way before file pulled c.args.p.now joins.Choosing (sym c.replace.ensures.value ∙ c.in-Choosing.is) plays in
    record { bits = plays.bits; plays = c.end_bits.ensures.plays file 0 plays.bits w.0; stage = w.1 }
