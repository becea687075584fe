use Rattle.std.proofs.Common.{◌+◌, [], subst, sym}
use Rattle.dsdarc_c.specs.BareWhole.{PlaysRun}
use Rattle.dsdarc_c.proofs.BareLaws.{plays_at_start}
use Rattle.dsdarc_c.proofs.WholeLaws.{nothing_at}
use Rattle.dsdarc_c.proofs.bare_sound.start_run.Goals as goal

pub returns-clause-plays : goal.returns-clause-plays
returns-clause-plays c file begins =
    let s = c.args.sound in
    let r = c.new-run in
    let header = c.args.p.now.header.items in
    let plays = plays_at_start file c.args.frame header s r.result begins r.ensures.ready r.ensures.sound r.ensures.given in
    c.push_run.ensures.plays file c.args.frame [] (subst (λ n. PlaysRun file c.args.frame [] header (s.start + n) s r.result) (sym c.fed.ensures) plays) (nothing_at file _)
