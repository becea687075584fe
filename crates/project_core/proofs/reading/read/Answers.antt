use Rattle.std.proofs.Common.{subst}
use Rattle.project_core.specs.Projects.{project_content}
use Rattle.project_core.specs.Steps.{Gives}
use Rattle.project_core.proofs.ProjectLaws.{is_found, project_again}
use Rattle.project_core.proofs.reading.read.Goals as goal

pub returns-clause-found : goal.returns-clause-found
returns-clause-found c = is_found c.args.bytes.now c.read_in_order.result c.read_in_order.ensures

pub returns-clause-only : goal.returns-clause-only
returns-clause-only c = λ p says. subst (λ f. Gives project_content c.read_in_order.result f) (project_again c.args.bytes.now p says) c.read_in_order.ensures
