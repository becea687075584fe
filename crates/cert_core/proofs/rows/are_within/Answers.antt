use Rattle.cert_core.proofs.Marks.{is_zero, none_over}
use Rattle.cert_core.proofs.rows.are_within.Goals as goal

pub returns-then-by_0-row-eq0-clause-by_0 : goal.returns-then-by_0-row-eq0-clause-by_0
returns-then-by_0-row-eq0-clause-by_0 c = λ _. none_over c.args.row.now c.args.by_0.now c.told-row c.told-by_0 c.if-by_0-row-eq0.true

pub returns-then-by_0-row-eq0-clause-by_1 : goal.returns-then-by_0-row-eq0-clause-by_1
returns-then-by_0-row-eq0-clause-by_1 c = λ h. none_over c.args.row.now c.args.by_1.now c.told-row c.told-by_1 (is_zero _ h)
