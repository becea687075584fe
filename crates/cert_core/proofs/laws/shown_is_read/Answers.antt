use Rattle.cert_core.proofs.Composition.{shown_is_read}
use Rattle.cert_core.proofs.laws.shown_is_read.Goals as goal

pub returns : goal.returns
returns c = shown_is_read
