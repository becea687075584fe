use Rattle.std.proofs.Common.{arith, rules}
use Rattle.sound_core.proofs.reader.new_block.Goals as goal

pub returns : goal.returns
returns c = search (arith, rules)
