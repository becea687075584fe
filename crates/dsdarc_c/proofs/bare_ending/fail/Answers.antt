use Rattle.std.proofs.Common.{◌++◌}
use Rattle.dsdarc_c.specs.Bare.{bare_waiting}
use Rattle.dsdarc_c.proofs.BareLaws.{bits_prefix}
use Rattle.dsdarc_c.proofs.bare_ending.fail.Goals as goal

pub returns-clause-plays : goal.returns-clause-plays
returns-clause-plays c file start pulled plays =
    let p = c.args.p.now in
    record { stage = bits_prefix p.layout file start (pulled ++ bare_waiting p) p.header.items p.place p.stage c.requires.stage plays.stage }
