use Rattle.std.proofs.Common.{◌≤◌, ◌-◌}
use Rattle.null_core.specs.Parts.{asked_content}
use Rattle.null_core.specs.Walks.{AreUnedited}
use Rattle.null_core.proofs.edited.first_edited.Given as goal

abbrev pub invariant-loop-place : goal.invariant-loop-place
invariant-loop-place l = record { after : l.from ≤ l.place; before : AreUnedited (asked_content l.asked) l.bits l.from l.place }

abbrev pub decreases-loop-place : goal.decreases-loop-place
decreases-loop-place l = l.count - l.place
