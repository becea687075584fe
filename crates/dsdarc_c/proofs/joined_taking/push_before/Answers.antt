use Rattle.std.proofs.Common.{◌++◌, [], subst, sym}
use Rattle.joined_core.specs.Givers.{HasGiven}
use Rattle.dsdarc_c.specs.Joined.{IsBeforeOwn, joined_waiting}
use Rattle.dsdarc_c.proofs.JoinedLaws.{given_first, no_more, nothing_own, same_empty, same_fails}
use Rattle.dsdarc_c.proofs.joined_taking.push_before.Goals as goal

pub returns-in_err-start_file-in-Ok-clause-keeps : goal.returns-in_err-start_file-in-Ok-clause-keeps
returns-in_err-start_file-in-Ok-clause-keeps c =
    let t = c.requires.joined.taken in
    let e = c.start_file.ensures in
    same_fails (record c.args.p.now { bare = c.push_bare.new.p }) c.start_file.new.p e.same c.requires.stage t.pulled t.shape e.bare e.layout e.few

pub returns-in_err-start_file-in-Ok-clause-plays : goal.returns-in_err-start_file-in-Ok-clause-plays
returns-in_err-start_file-in-Ok-clause-plays c way before file bits pulled plays is has at =
    let t = c.requires.joined.taken in
    same_empty way before file pulled (record c.args.p.now { bare = c.push_bare.new.p }) c.start_file.new.p c.start_file.ensures.same c.requires.stage c.requires.none (given_first way before file bits pulled c.args.p.now.bare c.args.giver t.bare t.layout t.giver plays is has)

pub returns-in_err-give-in-Ok-clause-plays : goal.returns-in_err-give-in-Ok-clause-plays
returns-in_err-give-in-Ok-clause-plays c way before file bits pulled plays is has at =
    c.give.ensures.plays way before file bits pulled (c.in_ok-start_file-in-Ok.ensures.plays file bits (c.push_bare.ensures.plays file 0 bits plays at)) is has

pub returns-in_ok-give-in-Ok-clause-plays : goal.returns-in_ok-give-in-Ok-clause-plays
returns-in_ok-give-in-Ok-clause-plays c way before file bits pulled plays is has at =
    c.give.ensures.plays way before file bits pulled (c.in_ok-start_file-in-Ok.ensures.plays file bits (c.push_bare.ensures.plays file 0 bits plays at)) is has

pub returns-in-Err-clause-plays : goal.returns-in-Err-clause-plays
returns-in-Err-clause-plays c way before file bits pulled plays is has at =
    let p = c.args.p.now in
    let none = nothing_own p.bare file bits (subst IsBeforeOwn (sym c.requires.header.1) tt) plays in
    let came = subst (λ xs. HasGiven (before ++ xs) pulled c.args.giver) none has in
    record { bits = []; plays = c.new.ensures.plays file; stage = (is, subst (λ xs. HasGiven (before ++ []) xs c.args.giver) (sym (no_more pulled (joined_waiting p) c.requires.none)) came) }
