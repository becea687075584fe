use Rattle.project_core.proofs.ProjectLaws.{project_again, project_ok}
use Rattle.project_core.proofs.laws.read_as_said.Goals as goal

pub returns : goal.returns
returns c = λ bytes p. (project_ok bytes p, project_again bytes p)
