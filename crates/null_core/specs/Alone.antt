-- What is heard from a place on, and whether it is one source.
use Rattle.std.specs.Prelude.{◌≡◌, ℕ, ◌<◌, ◌≤◌, ℤ, pos, ◌<ℤ◌, IsTrue, List, slice_get, Option, Some, MatchOption}
use Rattle.clip_core.specs.declared.line.Line.{Line}
use Rattle.clip_core.specs.Gains.{full_gain}
use Rattle.clip_core.specs.Lines.{line_gain, until}
use Rattle.null_core.specs.declared.alone.Heard.{Heard}
use Rattle.null_core.specs.declared.alone.Heard.TheVariants.{Nothing, Single, Mixed}
use Rattle.null_core.specs.declared.alone.HeardUntil.{HeardUntil}
use Rattle.null_core.specs.declared.alone.Level.{Level}
use Rattle.null_core.specs.declared.alone.Level.TheVariants.{Negative, Zero, Reduced, Full, Raised}
use Rattle.null_core.specs.declared.alone.Source.{Source}
use Rattle.null_core.specs.Own.{IsAlone, IsHeard, IsWhole}
use Rattle.null_core.specs.Parts.{PartContent, has_place, part_gain}
use Rattle.null_core.specs.Walks.{HearSame}

-- a gain is below 0, 0, between 0 and 1, 1, or above 1
abbrev pub IsLevel : Level → ℤ → Type 0
IsLevel Negative g = g <ℤ pos 0
IsLevel Zero g = g ≡ pos 0
IsLevel Reduced g = (pos 0 <ℤ g) × (g <ℤ full_gain)
IsLevel Full g = g ≡ full_gain
IsLevel Raised g = full_gain <ℤ g

-- from a place of a line up to another one the gain has this level
pub record IsLevelUntil (line : Line) (k : ℕ) (level : Level) (end : ℕ) : Type 0 where
  pub some : k < end
  pub inside : end ≤ until line
  pub each : (j : ℕ) → k ≤ j → j < end → IsLevel level (line_gain line j)

-- a part has a place, and its gain there has this level
pub record HasLevel (level : Level) (p : PartContent) (k : ℕ) : Type 0 where
  pub there : IsTrue (has_place k p)
  pub gain : IsLevel level (part_gain p k)

-- what is heard of a part at place k; unless it is mixed, the part is heard at place m if and only if it is heard at k
abbrev pub IsPartHeard : Heard → PartContent → ℕ → ℕ → Type 0
IsPartHeard Nothing p m k = (IsHeard m p → ⊥) × (IsHeard k p → ⊥)
IsPartHeard (Single s) p m k = IsHeard m p × IsHeard k p × IsWhole s.take s.ahead k p
IsPartHeard Mixed p m k = IsHeard k p × ((t : ℕ) (o : ℤ) → IsWhole t o k p → ⊥)

-- what is heard of a part from a place on
pub record IsPartHeardFrom (p : PartContent) (m : ℕ) (found : HeardUntil) : Type 0 where
  pub some : m < found.until
  pub each : (k : ℕ) → m ≤ k → k < found.until → IsPartHeard found.heard p m k

-- each part that is heard at a place has a gain of 1 there and is of a take that is so far ahead
abbrev pub AreWhole : List PartContent → ℕ → ℤ → ℕ → Type 0
AreWhole parts t o k = (i : ℕ) (p : PartContent) → slice_get parts i ≡ Some p → IsHeard k p → IsWhole t o k p

-- what is heard of parts at place k; unless it is mixed, the same parts are heard at place m
abbrev pub AreHeard : Heard → List PartContent → ℕ → ℕ → Type 0
AreHeard Nothing parts m k = (i : ℕ) (p : PartContent) → slice_get parts i ≡ Some p → (IsHeard m p → ⊥) × (IsHeard k p → ⊥)
AreHeard (Single s) parts m k = IsAlone parts s.take s.ahead k × HearSame parts m k
AreHeard Mixed parts m k = (t : ℕ) (o : ℤ) → AreWhole parts t o k → ⊥

-- the source that is heard alone, if there is one
abbrev pub IsSourceOf : Heard → Option Source → Type 0
IsSourceOf heard found = MatchOption found ((s : Source) → heard ≡ Single s → ⊥) (λ s. heard ≡ Single s)
