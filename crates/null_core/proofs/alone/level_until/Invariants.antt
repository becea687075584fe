use Rattle.std.proofs.Common.{ℕ, ◌+◌, ◌-◌, ◌<◌, ◌≤◌}
use Rattle.clip_core.specs.declared.line.Line.{Line}
use Rattle.clip_core.specs.Lines.{line_gain, until}
use Rattle.null_core.specs.declared.alone.Level.{Level}
use Rattle.null_core.specs.Alone.{IsLevel}
use Rattle.null_core.proofs.alone.level_until.Given as goal

-- the gain has the level at `last`, and `after` is a place after it, at most that after the line; `tried` is between them if
-- a place is
pub record IsBracket (line : Line) (k : ℕ) (level : Level) (last tried after : ℕ) : Type 0 where
  pub begun : k ≤ last
  pub order : last < after
  pub inside : after ≤ until line
  pub here : IsLevel level (line_gain line last)
  pub between : last + 1 < after → last < tried
  pub below : tried < after

abbrev pub invariant-loop-after : goal.invariant-loop-after
invariant-loop-after l = IsBracket l.line l.k l.level l.last l.tried l.after

abbrev pub decreases-loop-after : goal.decreases-loop-after
decreases-loop-after l = l.after - l.last
