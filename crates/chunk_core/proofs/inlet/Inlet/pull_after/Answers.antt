use Rattle.std.proofs.Common.{ℕ, arith, refl, length-take, length-drop}
use Rattle.chunk_core.proofs.Pulls.{PullsAfter-read}
use Rattle.chunk_core.proofs.inlet.Inlet.pull_after.Goals as goal

pub returns-clause-bytes : goal.returns-clause-bytes
returns-clause-bytes g c = PullsAfter-read _ _ c.pull.result c.args.filled _ c.args.buffer.now c.pull.new.buffer c.requires.room (omega (arith, c.pull.auto.buffer, length-take {A = ℕ}, length-drop {A = ℕ})) refl c.pull.ensures.bound c.pull.ensures.bytes
