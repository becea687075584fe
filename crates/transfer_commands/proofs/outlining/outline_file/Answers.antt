use Rattle.std.proofs.lemmas.Result.{IfErr-weaker, IfOk-weaker}
use Rattle.transfer_commands.proofs.OpeningLaws.{outlined}
use Rattle.transfer_commands.proofs.ReportLaws.{unoutlined_left}
use Rattle.transfer_commands.proofs.outlining.outline_file.Goals as goal

pub returns-in_default : goal.returns-in_default
returns-in_default g c = record { same = c.open.ensures.same; around = tt; found = tt; fault = tt }

pub returns : goal.returns
returns g c =
    let view = g.F.Folder.view c.args.folder.now in
    let left = g.F.In.Read.remaining c.in-Ok.file in
    let r = c.outline_reader.result in
    record {
      same = c.open.ensures.same;
      around = IfOk-weaker r _ _ (λ outline is. is.reported) c.outline_reader.ensures.found;
      found = IfOk-weaker r _ _ (outlined view c.args.name.now left c.in-Ok.ensures.bytes) c.outline_reader.ensures.found;
      fault = IfErr-weaker r _ _ (unoutlined_left view c.args.name.now left c.in-Ok.ensures.bytes) c.outline_reader.ensures.fault;
    }
