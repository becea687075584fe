use Rattle.cert_core.proofs.Raised.{width_fits, width_least}
use Rattle.cert_core.proofs.laws.byte_width_is_least.Goals as goal

pub returns : goal.returns
returns c = λ v h. ((width_fits v h).0, width_least v h)
