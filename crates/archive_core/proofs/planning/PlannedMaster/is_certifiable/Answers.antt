use Rattle.std.proofs.Common.{refl}
use Rattle.master_core.specs.Certifying.{chosen_cert}
use Rattle.archive_core.proofs.planning.PlannedMaster.is_certifiable.Goals as goal

pub returns : goal.returns
returns c = (chosen_cert c.args.self.now.cut c.args.self.now.bridges, refl)
