use Rattle.joined_core.proofs.GiverLaws.{given_comes_first}
use Rattle.joined_core.proofs.laws.given_comes_first.Goals as goal

pub returns : goal.returns
returns c = given_comes_first
