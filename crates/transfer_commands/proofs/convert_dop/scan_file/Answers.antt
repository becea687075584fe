use Rattle.std.proofs.lemmas.Result.{IfErr-weaker, IfOk-weaker}
use Rattle.transfer_commands.proofs.DopFileLaws.{scan_read, unscanned}
use Rattle.transfer_commands.proofs.convert_dop.scan_file.Goals as goal

pub returns : goal.returns
returns g c =
    let view = g.F.Folder.view c.args.folder.now in
    let left = g.F.In.Read.remaining c.in-Ok.file in
    let r = c.scan_reader.result in
    record {
      same = c.open.ensures.same;
      outline = IfOk-weaker r _ _ (λ outline is. is.is_outline) c.scan_reader.ensures.found;
      found = IfOk-weaker r _ _ (scan_read view c.args.name.now left c.in-Ok.ensures.bytes) c.scan_reader.ensures.found;
      fault = IfErr-weaker r _ _ (unscanned view c.args.name.now left c.in-Ok.ensures.bytes) c.scan_reader.ensures.fault;
    }

pub returns-in_default : goal.returns-in_default
returns-in_default g c = record { same = c.open.ensures.same; outline = tt; found = tt; fault = tt }
