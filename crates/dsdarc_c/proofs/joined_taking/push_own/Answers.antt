use Rattle.dsdarc_c.proofs.JoinedLaws.{failed_empty, given_first}
use Rattle.dsdarc_c.proofs.joined_taking.push_own.Goals as goal

pub returns-in_err-n-clause-plays : goal.returns-in_err-n-clause-plays
returns-in_err-n-clause-plays c way before file bits pulled plays is has at =
    let t = c.requires.joined.taken in
    failed_empty way before file pulled _ c.requires.stage c.requires.none (given_first way before file bits pulled c.args.p.now.bare c.args.giver t.bare t.layout t.giver plays is has)

pub returns-in_err-give-clause-plays : goal.returns-in_err-give-clause-plays
returns-in_err-give-clause-plays c way before file bits pulled plays is has at =
    c.give.ensures.plays way before file bits pulled (c.push_bare.ensures.plays file 0 bits plays at) is has

pub returns-clause-plays : goal.returns-clause-plays
returns-clause-plays c way before file bits pulled plays is has at =
    c.give.ensures.plays way before file bits pulled (c.push_bare.ensures.plays file 0 bits plays at) is has
