use Rattle.request_core.proofs.CuttingLaws.{says_cut}
use Rattle.request_core.proofs.ProjectLaws.{says_takes}
use Rattle.transfer_core.proofs.ReadingLaws.{converts, plays}
use Rattle.archive_core.proofs.laws.read_in_order.Goals as goal

pub returns-clause-converts : goal.returns-clause-converts
returns-clause-converts c = converts

pub returns-clause-plays : goal.returns-clause-plays
returns-clause-plays c = plays

pub returns-clause-takes : goal.returns-clause-takes
returns-clause-takes c = says_takes

pub returns-clause-cuts : goal.returns-clause-cuts
returns-clause-cuts c = says_cut
