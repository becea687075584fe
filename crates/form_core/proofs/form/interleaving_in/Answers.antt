use Rattle.std.proofs.Common.{arith}
use Rattle.std.proofs.lemmas.Grind.{common_steps}
use Rattle.form_core.proofs.form.interleaving_in.Goals as goal

pub returns-in-Dsf8 : goal.returns-in-Dsf8
returns-in-Dsf8 c = grind (arith, common_steps)
