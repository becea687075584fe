use Rattle.std.proofs.Common.{refl, arith}
use Rattle.cert_core.proofs.rows.row_reason.Goals as goal

pub returns-in-Some-clause-reason : goal.returns-in-Some-clause-reason
returns-in-Some-clause-reason c = (omega (arith, c.if-level-eq0.false), refl, c.in-Some.ensures.found.0, c.in-Some.ensures.found.1, c.in-Some.ensures.found.2)
