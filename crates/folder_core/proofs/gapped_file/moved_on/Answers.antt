use Rattle.std.proofs.Common.{◌+◌, arith, subst, sym}
use Rattle.std.specs.Prelude.{IfOk}
use Rattle.folder_core.specs.GappedFiles.{HasSameGaps}
use Rattle.folder_core.proofs.ZeroLaws.{zeroed_moved}
use Rattle.folder_core.proofs.gapped_file.moved_on.Goals as goal

pub returns-in-Ok-clause-same : goal.returns-in-Ok-clause-same
returns-in-Ok-clause-same c =
    subst (λ got. IfOk got (λ count. HasSameGaps c.args.gaps (c.args.place + count) c.saturating_add.result)) (sym c.in-Ok.is)
    (λ bytes. zeroed_moved c.args.gaps c.args.place c.saturating_add.result c.in-Ok.count bytes (omega (arith, c.max-last.ensures, c.max-last.type_inv)) (omega (arith, c.max-last.ensures, c.max-last.type_inv)) c.saturating_add.ensures)
