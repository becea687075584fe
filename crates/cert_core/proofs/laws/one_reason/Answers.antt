use Rattle.std.proofs.Common.{arith}
use Rattle.cost_core.specs.StateCosts.{trellis_of}
use Rattle.cert_core.proofs.OneReason.{one_first}
use Rattle.cert_core.proofs.laws.one_reason.Goals as goal

pub returns : goal.returns
returns c = λ v d cue channel found bytes a b fine hc hk p q. one_first v (trellis_of d) cue channel found bytes a b hc hk (omega (arith, fine.levels_in)) p q
