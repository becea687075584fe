-- The straight lines on which the gain of a clip is.
use Rattle.std.specs.Prelude.{◌≡◌, ℕ, ◌<◌, ◌≤◌, ℤ, List}
use Rattle.clip_core.specs.declared.gain.Point.{Point}
use Rattle.clip_core.specs.declared.line.Line.{Line}
use Rattle.clip_core.specs.Gains.{gain, on_line}

-- the place after the last one of a line
abbrev pub until : Line → ℕ
until line = line.to.place

-- the gain on a line at one of its places
abbrev pub line_gain : Line → ℕ → ℤ
line_gain line = on_line line.from line.to

-- the place is one of the line's
pub record IsOnLine (line : Line) (k : ℕ) : Type 0 where
  pub begun : line.from.place ≤ k
  pub not_ended : k < until line

-- the gain is on this line at each of its places
abbrev pub IsLineOf : List Point → Line → Type 0
IsLineOf points line = (k : ℕ) → IsOnLine line k → line_gain line k ≡ gain points k
