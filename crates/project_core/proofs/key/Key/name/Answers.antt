use Rattle.std.proofs.Common.{refl}
use Rattle.project_core.specs.Keys.{key_name}
use Rattle.project_core.proofs.key.Key.name.Goals as goal

pub returns-in-Start : goal.returns-in-Start
unfolding key_name
returns-in-Start c = rw c.in-Start.is refl

pub returns-in-Stop : goal.returns-in-Stop
unfolding key_name
returns-in-Stop c = rw c.in-Stop.is refl
