use Rattle.cert_core.proofs.Composition.{next_is_read, nothing_follows}
use Rattle.cert_core.proofs.laws.cert_goes_on.Goals as goal

pub returns-clause-next : goal.returns-clause-next
returns-clause-next c = next_is_read

pub returns-clause-end : goal.returns-clause-end
returns-clause-end c = nothing_follows
