use Rattle.std.proofs.Common.{rules}
use Rattle.folder_core.proofs.disk.DiskFolder.give_up.Goals as goal

pub returns-in-Some : goal.returns-in-Some
returns-in-Some g c = rw (← c.in-Some.ensures) (search rules)
