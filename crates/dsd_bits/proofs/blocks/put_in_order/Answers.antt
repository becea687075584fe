use Rattle.std.proofs.Common.{arith}
use Rattle.std.proofs.lemmas.Grind.{elements}
use Rattle.dsd_bits.proofs.blocks.put_in_order.Goals as goal

pub returns-in-MostFirst : goal.returns-in-MostFirst
returns-in-MostFirst c = grind (arith, elements)
