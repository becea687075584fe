use Rattle.std.proofs.Common.{ℕ, ◌<◌, ◌≤◌, ◌-◌, length}
use Rattle.null_core.specs.Own.{IsEdited}
use Rattle.null_core.specs.Parts.{asked_content}
use Rattle.null_core.proofs.edited.first_unedited.Given as goal

abbrev pub invariant-loop-place : goal.invariant-loop-place
invariant-loop-place l = record { after : l.start ≤ l.place; each : (n : ℕ) → l.start ≤ n → n < l.place → n < length l.bits → IsEdited (asked_content l.asked) l.bits n }

abbrev pub decreases-loop-place : goal.decreases-loop-place
decreases-loop-place l = l.count - l.place
