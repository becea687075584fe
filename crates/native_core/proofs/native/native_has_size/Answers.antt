use Rattle.native_core.proofs.NativeLaws.{native_has_size}
use Rattle.native_core.proofs.native.native_has_size.Goals as goal

pub returns : goal.returns
returns c = native_has_size
