use Rattle.std.proofs.Common.{arith}
use Rattle.fir_core.proofs.TileLaws.{size_is}
use Rattle.fir_core.proofs.stream.begins.Goals as goal

pub returns : goal.returns
returns c =
    let d = c.args.taps.now in
    let size = size_is c.tables.inside.taps.items c.args.tables.now d.taps d.delay c.tables.view_is c.requires.tables in
    rw (← size, ← c.place_of.ensures) (omega (arith, c.saturating_sub.ensures))
