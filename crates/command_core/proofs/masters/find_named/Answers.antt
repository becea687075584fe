use Rattle.command_core.proofs.MasterLaws.{found_there}
use Rattle.command_core.proofs.masters.find_named.Goals as goal

pub returns-in-Ok : goal.returns-in-Ok
returns-in-Ok g c = record {
  same = c.open.ensures.same;
  found = found_there (g.F.Folder.view c.args.folder.now) c.args.cut.now c.args.name.now (g.F.In.Read.remaining c.in-Ok.file) c.in-Ok.ensures.bytes c.find_in.result c.find_in.ensures.found c.find_in.ensures.some;
  some = c.find_in.ensures.some;
  fault = c.find_in.ensures.fault;
}
