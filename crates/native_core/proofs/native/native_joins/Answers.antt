use Rattle.native_core.proofs.NativeLaws.{native_joins}
use Rattle.native_core.proofs.native.native_joins.Goals as goal

pub returns : goal.returns
returns c = native_joins
