use Rattle.heard_core.proofs.PieceLaws.{piece_is}
use Rattle.heard_core.proofs.piece.piece_of.Goals as goal

pub returns : goal.returns
returns c = piece_is c.args.taps.now c.args.k c.min-end.result c.in-Ok.taps c.in_ok-tables.tables c.min-end.ensures c.requires.within c.in-Ok.ensures.ok c.in_ok-tables.ensures
