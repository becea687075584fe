use Rattle.null_core.proofs.NullLaws.{greatest_is_least, stretches_tell_nulls}
use Rattle.null_core.proofs.laws.stretches_tell_nulls.Goals as goal

pub returns : goal.returns
returns c = record { each = stretches_tell_nulls; greatest = greatest_is_least }
