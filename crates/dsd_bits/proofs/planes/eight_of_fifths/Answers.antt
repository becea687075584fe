use Rattle.std.proofs.Common.{refl}
use Rattle.dsd_bits.proofs.PlaneLemmas.{eight_fifths}
use Rattle.dsd_bits.proofs.planes.eight_of_fifths.Goals as goal

pub returns : goal.returns
returns c = (refl, eight_fifths c.args.bytes.now c.args.from c.requires)
