use Rattle.heard_core.proofs.WindowLaws.{windows_are_residuals}
use Rattle.heard_core.proofs.laws.windows_are_residuals.Goals as goal

pub returns : goal.returns
returns c = windows_are_residuals
