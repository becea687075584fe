use Rattle.std.proofs.Common.{◌^◌}
use Rattle.cert_core.proofs.Marks.{none_over_value, not_zero, one_over_value, zero_where_not}
use Rattle.cert_core.proofs.rows.are_above.Goals as goal

pub returns-clause-above : goal.returns-clause-above
returns-clause-above c = λ h. one_over_value c.args.values.now (2 ^ 63) c.told-values (not_zero _ h)

pub returns-clause-within : goal.returns-clause-within
returns-clause-within c = λ h. none_over_value c.args.values.now (2 ^ 63) c.told-values (zero_where_not _ h)
