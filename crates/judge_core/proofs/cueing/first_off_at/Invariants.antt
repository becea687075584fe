use Rattle.std.proofs.Common.{ℕ, ◌<◌}
use Rattle.judge_core.specs.Comparing.{IsOffAt}
use Rattle.judge_core.proofs.cueing.first_off_at.Given as goal

abbrev pub invariant-loop-place : goal.invariant-loop-place
invariant-loop-place l = record { none : (p : ℕ) → p < l.place → IsOffAt l.cut l.fn.at.channel l.fn.at.cue l.done l.part p → ⊥ }
