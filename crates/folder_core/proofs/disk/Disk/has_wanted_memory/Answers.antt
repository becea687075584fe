use Rattle.std.proofs.Common.{refl}
use Rattle.folder_core.proofs.disk.Disk.has_wanted_memory.Goals as goal

pub returns : goal.returns
returns g c = refl
