use Rattle.std.proofs.Common.{subst, sym}
use Rattle.chunk_core.specs.Inlets.{inlet_reader}
use Rattle.folder_core.specs.Files.{IsGiven}
use Rattle.null_commands.proofs.MasterLaws.{master_named}
use Rattle.null_commands.proofs.masters.read_named.Goals as goal

pub returns-in-Ok-clause-found : goal.returns-in-Ok-clause-found
returns-in-Ok-clause-found g c =
    let view = g.F.Folder.view c.args.folder.now in
    let left = g.F.In.Read.remaining in
    master_named view c.args.mixed.now c.args.name.now (left (inlet_reader c.new.result)) (subst (λ r. IsGiven view c.args.name.now (left r)) (sym c.new.ensures.reader) c.in-Ok.ensures.bytes)
    c.read_opened.result c.read_opened.ensures.found c.read_opened.ensures.any_reader
