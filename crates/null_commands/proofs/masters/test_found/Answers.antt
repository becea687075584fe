use Rattle.std.proofs.Common.{subst}
use Rattle.null_core.specs.Candidates.{HoldsCandidate}
use Rattle.null_core.specs.Files.{IsReadIn}
use Rattle.null_commands.proofs.MasterLaws.{scaled}
use Rattle.null_commands.proofs.masters.test_found.Goals as goal

pub returns-in-Ok-clause-heard : goal.returns-in-Ok-clause-heard
returns-in-Ok-clause-heard g c = λ file read. c.test_candidate.ensures.heard file (subst (IsReadIn (HoldsCandidate c.args.mixed.now) file) c.in-Ok.is read)

pub returns-in-Ok-clause-scale : goal.returns-in-Ok-clause-scale
returns-in-Ok-clause-scale g c = scaled c.args.mixed.now c.full_scale-full.result c.full_scale-full.ensures.value c.test_candidate.result c.test_candidate.ensures.full
