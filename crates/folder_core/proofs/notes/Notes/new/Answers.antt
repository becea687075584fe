use Rattle.std.proofs.Common.{refl}
use Rattle.folder_core.proofs.notes.Notes.new.Goals as goal

pub returns-clause-fresh : goal.returns-clause-fresh
returns-clause-fresh c = refl
