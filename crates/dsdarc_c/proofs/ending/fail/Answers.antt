use Rattle.std.proofs.Common.{◌++◌}
use Rattle.dsdarc_c.specs.Whole.{waiting}
use Rattle.dsdarc_c.proofs.WholeLaws.{prefix_of}
use Rattle.dsdarc_c.proofs.ending.fail.Goals as goal

pub returns-clause-plays : goal.returns-clause-plays
returns-clause-plays c file start pulled plays =
    let p = c.args.p.now in
    record { stage = prefix_of p.taps file start (pulled ++ waiting p) p.header.items p.place p.stage c.requires.stage plays.stage }
