use Rattle.null_core.specs.Candidates.{HoldsCandidate}
use Rattle.null_core.specs.Files.{IsReadLeft}
use Rattle.null_commands.specs.Masters.{ReadsSome}
use Rattle.null_commands.proofs.MasterLaws.{given_some, kept}
use Rattle.null_commands.proofs.masters.read_opened.Goals as goal

pub returns-in-Ok-clause-found : goal.returns-in-Ok-clause-found
returns-in-Ok-clause-found g c = kept (IsReadLeft (HoldsCandidate c.args.mixed.now) g.R.Read.remaining c.args.inlet.now) c.in-Ok.found c.in-Ok.ensures.found c.kept_if.result c.kept_if.ensures.found

pub returns-in-Ok-clause-any_reader : goal.returns-in-Ok-clause-any_reader
returns-in-Ok-clause-any_reader g c =
    kept (ReadsSome c.args.mixed.now) c.in-Ok.found (given_some (HoldsCandidate c.args.mixed.now) g.R.Read.remaining c.args.inlet.now c.read_master.new.inlet c.in-Ok.found c.in-Ok.ensures.any_reader) c.kept_if.result c.kept_if.ensures.found
