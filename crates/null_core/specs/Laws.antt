-- How the words of the contracts are related.
use Rattle.std.specs.Prelude.{ℕ, ◌≤◌, ◌↔◌, Bool, List, All, Result}
use Rattle.null_core.specs.declared.stretch.Stretch.{Stretch}
use Rattle.null_core.specs.Judged.{Nulls}
use Rattle.null_core.specs.Judging.{JudgesChannel}
use Rattle.null_core.specs.Likeness.{AreAskedAlike, AreExcerptsOf}
use Rattle.null_core.specs.Parts.{AskedContent, PartContent}
use Rattle.null_core.specs.Stretches.{AreStretches, greatest_residual}

-- a channel nulls to a residual exactly if none of its stretches has a greater one
abbrev pub StretchesTellNulls : Type 0
StretchesTellNulls = (a : AskedContent) (bits : List Bool) (stretches : List Stretch) (most : ℕ) → AreStretches a bits stretches → Nulls a bits most ↔ All (λ (s : Stretch). s.residual ≤ most) stretches

-- the greatest residual of its stretches is the least one to which a channel nulls
abbrev pub GreatestIsLeast : Type 0
GreatestIsLeast = (a : AskedContent) (bits : List Bool) (stretches : List Stretch) (most : ℕ) → AreStretches a bits stretches → Nulls a bits most ↔ (greatest_residual stretches ≤ most)

-- parts that hold what they need sound like the whole ones
abbrev pub ExcerptsSoundAlike : Type 0
ExcerptsSoundAlike = (a : AskedContent) (parts : List PartContent) → AreExcerptsOf a.parts parts → AreAskedAlike (record a { parts = parts }) a

-- whatever is judged of what is asked for is judged of all that asks for the same
abbrev pub AlikeAreJudgedAlike : Type 0
AlikeAreJudgedAlike = (a b : AskedContent) → AreAskedAlike a b → (bits : List Bool) (found : Result (List Stretch) ℕ) → JudgesChannel a bits found → JudgesChannel b bits found
