use Rattle.std.proofs.Common.{refl, rules}
use Rattle.fir_core.proofs.RowLaws.{place_has}
use Rattle.fir_core.proofs.blocks.row_place.Goals as goal

pub returns : goal.returns
returns c = place_has c.args.spot c.args.j _ refl (search rules) c.requires.reached
