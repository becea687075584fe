use Rattle.std.proofs.Common.{refl}
use Rattle.chunk_core.proofs.fused_outlet.FusedOutlet.put_all.Goals as goal

pub returns-in-Err-clause-refused : goal.returns-in-Err-clause-refused
returns-in-Err-clause-refused g c = refl
