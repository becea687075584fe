use Rattle.std.proofs.Common.{w64}
use Rattle.std.proofs.lemmas.Int.{to_z-of_z}
use Rattle.heard_core.specs.Levels.{strength}
use Rattle.heard_core.proofs.LevelLaws.{told_same}
use Rattle.heard_core.proofs.decibels.is_at_level.Goals as goal

pub returns-in-Some : goal.returns-in-Some
returns-in-Some c =
    let same = rw (to_z-of_z w64 c.args.level c.ranges.level) at (c.tens_of-mine.ensures (strength c.args.value) (strength c.args.full)) in
    ((λ x. same.1 (c.in-Some.ensures.0 x)), (λ x. c.in-Some.ensures.1 (same.0 x)))

pub returns-in-None : goal.returns-in-None
returns-in-None c =
    let same = rw (to_z-of_z w64 c.args.level c.ranges.level) at (c.tens_of-mine.ensures (strength c.args.value) (strength c.args.full)) in
    told_same c.told_exactly.result same c.told_exactly.ensures
