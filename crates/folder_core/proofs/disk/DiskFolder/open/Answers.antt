use Rattle.std.proofs.Common.{subst}
use Rattle.std.specs.IoError.{error_kind}
use Rattle.folder_core.specs.Disks.{RunsOut}
use Rattle.folder_core.specs.declared.notes.Notes.{Notes}
use Rattle.folder_core.proofs.disk.DiskFolder.open.Goals as goal

pub returns-in-Err-clause-refused : goal.returns-in-Err-clause-refused
returns-in-Err-clause-refused g c =
    let kind = error_kind c.in-Err.error in
    (kind, subst (λ (old : Notes). RunsOut kind old c.add_error.new.self) c.open_source.ensures c.add_error.ensures)
