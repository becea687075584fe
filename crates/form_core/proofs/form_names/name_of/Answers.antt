use Rattle.std.proofs.Common.{arith}
use Rattle.std.proofs.lemmas.Grind.{common_steps}
use Rattle.form_core.proofs.form_names.name_of.Goals as goal

pub returns-in-Dsf : goal.returns-in-Dsf
returns-in-Dsf c = grind (arith, common_steps)
