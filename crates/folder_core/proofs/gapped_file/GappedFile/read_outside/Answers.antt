use Rattle.std.proofs.Common.{subst, sym}
use Rattle.folder_core.specs.GappedFiles.{LiesOutside}
use Rattle.folder_core.proofs.ZeroLaws.{read_bytes}
use Rattle.folder_core.proofs.gapped_file.GappedFile.read_outside.Goals as goal

pub returns-clause-bytes : goal.returns-clause-bytes
returns-clause-bytes g c =
    let file = c.args.self.now in
    let left = g.F.In.Read.remaining in
    read_bytes file.gaps file.place c.moved_on-self.result (left file.file) (left c.read-got.new.self) c.read-got.result c.read-got.new.buf (subst (LiesOutside file.gaps file.place) (sym c.read-got.auto.buf) c.requires) c.read-got.ensures.bound c.moved_on-self.ensures.place c.moved_on-self.ensures.same c.read-got.ensures.bytes
