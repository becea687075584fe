use Rattle.std.proofs.Common.{refl}
use Rattle.request_core.proofs.ProjectLaws.{splice_given}
use Rattle.request_core.proofs.projects.splice_of.Goals as goal

pub returns-clause-exact : goal.returns-clause-exact
returns-clause-exact c = rw c.ok_or.ensures.value (splice_given c.args.project.now _ c.in_ok-splice.ensures.exact c.in_ok-splice.field-0.splice refl)
