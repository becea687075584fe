use Rattle.std.proofs.Common.{arith, refl}
use Rattle.command_core.proofs.outcome.status.Goals as goal

pub returns-in-Rejected : goal.returns-in-Rejected
returns-in-Rejected c = rw c.in-Rejected.is (record { value = refl; limit = omega arith })

pub returns-in-Summed : goal.returns-in-Summed
returns-in-Summed c = rw c.in-Summed.is (record { value = c.number.ensures.value; limit = omega (arith, c.number.ensures.limit) })
