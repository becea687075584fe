use Rattle.std.proofs.Common.{rules}
use Rattle.project_core.proofs.cue_table.line_of.Goals as goal

pub returns-in-len2 : goal.returns-in-len2
returns-in-len2 c = search (rules)
