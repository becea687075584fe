use Rattle.project_core.proofs.ProjectLaws.{one_project}
use Rattle.project_core.proofs.laws.one_project.Goals as goal

pub returns : goal.returns
returns c = one_project
