use Rattle.std.proofs.Common.{◌++◌, subst, sym}
use Rattle.joined_core.specs.Givers.{HasGiven}
use Rattle.dsdarc_c.specs.Joined.{joined_waiting}
use Rattle.dsdarc_c.proofs.JoinedLaws.{failed_empty, given_first, no_more}
use Rattle.dsdarc_c.proofs.joined_taking.push_giving.Goals as goal

pub returns-in-Open-clause-plays : goal.returns-in-Open-clause-plays
returns-in-Open-clause-plays c way before file bits pulled plays is has at =
    let p = c.args.p.now in
    record { bits = bits; plays = plays; stage = (is, subst (λ xs. HasGiven (before ++ bits) xs c.args.giver) (sym (no_more pulled (joined_waiting p) c.requires.none)) has) }

pub returns-in-Failed-clause-plays : goal.returns-in-Failed-clause-plays
returns-in-Failed-clause-plays c way before file bits pulled plays is has at =
    let t = c.requires.joined.taken in
    failed_empty way before file pulled _ c.requires.stage c.requires.none (given_first way before file bits pulled c.args.p.now.bare c.args.giver t.bare t.layout t.giver plays is has)
