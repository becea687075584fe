use Rattle.std.proofs.Common.{refl, subst, sym}
use Rattle.folder_core.specs.GappedFiles.{LiesInGap}
use Rattle.folder_core.proofs.ZeroLaws.{passed}
use Rattle.folder_core.proofs.gapped_file.GappedFile.pass_gap.Goals as goal

pub returns-clause-bytes : goal.returns-clause-bytes
returns-clause-bytes g c =
    let file = c.args.self.now in
    let left = g.F.In.Read.remaining in
    passed file.gaps file.place c.moved_on-self.result _ (left file.file) (left c.pass-got.new.file) c.pass-got.result c.pass-got.new.buffer c.fill.new.self
    (subst (LiesInGap file.gaps file.place) (sym c.pass-got.auto.buffer) c.requires) refl (c.fill.ensures.after (λ y is. is)) c.pass-got.ensures.bound c.moved_on-self.ensures.place c.moved_on-self.ensures.same c.pass-got.ensures.bytes
