use Rattle.std.proofs.Common.{subst}
use Rattle.form_core.specs.Opening.{Opens}
use Rattle.form_core.proofs.OpeningLaws.{held_is_opened, is_found}
use Rattle.form_core.proofs.opening.read_any.Goals as goal

pub returns-clause-found : goal.returns-clause-found
returns-clause-found c = is_found c.args.file.now c.open_in_order.result c.open_in_order.ensures

pub returns-clause-only : goal.returns-clause-only
returns-clause-only c = λ form r holds. subst (λ reading. Opens c.open_in_order.result reading) (held_is_opened c.args.file.now form r holds) c.open_in_order.ensures
