use Rattle.interleave_core.proofs.JoinLaws.{groups_join}
use Rattle.interleave_core.proofs.laws.groups_join.Goals as goal

pub returns : goal.returns
returns c = groups_join
