use Rattle.transfer_commands.proofs.SumLaws.{sums_come}
use Rattle.transfer_commands.proofs.summing.sum_file.Goals as goal

pub returns-in-Ok : goal.returns-in-Ok
returns-in-Ok g c =
    let view = g.F.Folder.view in
    sums_come c.args.file.now (view c.args.folder.now) (view c.open.new.self) (g.F.In.Read.remaining c.in-Ok.reader) c.open.ensures.same c.in-Ok.ensures.bytes c.sum_reader.result c.sum_reader.ensures.summed c.sum_reader.ensures.any_reader c.sum_reader.ensures.fault
