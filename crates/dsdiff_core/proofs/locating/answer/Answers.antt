use Rattle.dsdiff_core.proofs.SeekLoop.{walked_first}
use Rattle.dsdiff_core.proofs.locating.answer.Goals as goal

pub locate-requires : goal.locate-requires
locate-requires c = record { walked = walked_first c.args.prefix.now }
