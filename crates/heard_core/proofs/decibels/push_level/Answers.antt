use Rattle.dsd_bits.proofs.ExitLaws.{no_ok}
use Rattle.heard_core.proofs.decibels.push_level.Goals as goal

pub returns-in_err-level-clause-nothing : goal.returns-in_err-level-clause-nothing
returns-in_err-level-clause-nothing c = λ _. no_ok _ _ c.from_residual.result c.from_residual.ensures.1

pub returns-in_err-level-clause-level : goal.returns-in_err-level-clause-level
returns-in_err-level-clause-level c = λ _. no_ok _ _ c.from_residual.result c.from_residual.ensures.1
