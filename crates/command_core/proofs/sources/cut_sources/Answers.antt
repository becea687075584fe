use Rattle.std.proofs.Common.{Some}
use Rattle.request_core.specs.Cutting.{said_cut}
use Rattle.command_core.proofs.SourceLaws.{memory_refused}
use Rattle.command_core.proofs.sources.cut_sources.Goals as goal

pub returns-clause-refused : goal.returns-clause-refused
returns-clause-refused g c = λ project files are. memory_refused c.plan_master-planned.result (said_cut project files (Some c.args.form)) (c.plan_master-planned.ensures.refused project files (c.in_ok-cut.ensures.found project files are))
