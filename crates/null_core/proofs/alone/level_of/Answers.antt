use Rattle.std.proofs.Common.{arith}
use Rattle.std.proofs.lemmas.Int.{ints}
use Rattle.null_core.proofs.alone.level_of.Goals as goal

pub returns-then-gain-lt-FULL_GAIN : goal.returns-then-gain-lt-FULL_GAIN
returns-then-gain-lt-FULL_GAIN c = (omega (arith, ints), omega (arith, ints))
