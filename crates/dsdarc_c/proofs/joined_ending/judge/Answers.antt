use Rattle.std.proofs.Common.{inl, inr}
use Rattle.dsdarc_c.proofs.JoinedLaws.{all_own, nothing_own, on_two}
use Rattle.dsdarc_c.proofs.joined_ending.judge.Goals as goal

pub returns-then-before-clause-own : goal.returns-then-before-clause-own
returns-then-before-clause-own c file bits plays long none layout =
    let before = c.is_before_own-before.ensures.yes c.if-before.true in
    inl (before, nothing_own c.args.bare.now file bits before plays)

pub returns-clause-own : goal.returns-clause-own
returns-clause-own c file bits plays long none layout =
    on_two c.end_bits.result (λ ends same. inr (all_own c.args.bare.now file bits c.end_bits.new.p same layout none ends)) (c.end_bits.ensures.ends file 0 bits plays long) c.end_bits.ensures.same

pub returns-clause-accepted : goal.returns-clause-accepted
returns-clause-accepted c = on_two c.end_bits.result (λ accepts same. inr accepts) c.end_bits.ensures.accepted c.end_bits.ensures.same
