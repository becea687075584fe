use Rattle.clip_core.proofs.LineLaws.{level_line}
use Rattle.clip_core.proofs.line.Line.is_level.Goals as goal

pub returns-clause-level : goal.returns-clause-level
returns-clause-level c = let line = c.args.self.now in level_line line.from line.to line.limits
