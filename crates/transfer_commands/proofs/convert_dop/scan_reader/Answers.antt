use Rattle.std.proofs.Common.{ap, subst}
use Rattle.dop_core.proofs.OutlineLaws.{refused_on}
use Rattle.transfer_commands.specs.DopConverting.{IsFirstDopFault, ScansLeft}
use Rattle.transfer_commands.proofs.DopFileLaws.{first_dop, scanned}
use Rattle.transfer_commands.proofs.convert_dop.scan_reader.Goals as goal

pub returns-in-Ok : goal.returns-in-Ok
returns-in-Ok g c =
    let left = g.R.Read.remaining in
    record {
      found = subst (λ x. ScansLeft x c.in-Ok.outline) (ap left c.new-inlet.ensures.reader) (scanned left c.new-inlet.result c.scan_dop.new.inlet c.in-Ok.outline c.in-Ok.ensures.outline c.in-Ok.ensures.read);
      fault = tt;
    }

pub returns : goal.returns
returns g c =
    let left = g.R.Read.remaining in
    record {
      found = tt;
      fault = c.refusal_by.ensures (left c.args.reader) (refused_on c.in-Err.stop _ (IsFirstDopFault (left c.args.reader)) (λ e names. subst (λ x. IsFirstDopFault x e) (ap left c.new-inlet.ensures.reader) (first_dop left c.new-inlet.result c.scan_dop.new.inlet e names)) c.in-Err.ensures.named);
    }
