use Rattle.std.proofs.Common.{arith}
use Rattle.sound_core.proofs.reader.SoundReader.new.Goals as goal

pub returns-clause-limit : goal.returns-clause-limit
returns-clause-limit g c = omega arith
