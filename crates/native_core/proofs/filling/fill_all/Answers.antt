use Rattle.dsd_bits.proofs.ExitLaws.{no_value}
use Rattle.native_core.proofs.filling.fill_all.Goals as goal

pub returns-in_err-fill : goal.returns-in_err-fill
returns-in_err-fill c = no_value _ _ c.from_residual.result c.from_residual.ensures.1

pub returns-in_err-push : goal.returns-in_err-push
returns-in_err-push c = no_value _ _ c.from_residual-in_err-push.result c.from_residual-in_err-push.ensures.1
