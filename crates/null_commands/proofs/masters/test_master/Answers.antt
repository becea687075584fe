use Rattle.null_commands.proofs.MasterLaws.{tested_named}
use Rattle.null_commands.proofs.masters.test_master.Goals as goal

pub returns-clause-tested : goal.returns-clause-tested
returns-clause-tested g c =
    tested_named (g.F.Folder.view c.args.folder.now) c.args.mixed.now c.args.name.now c.in_ok-found.found c.in_ok-found.ensures.found c.test_found.result c.test_found.ensures.heard c.test_found.ensures.scale
