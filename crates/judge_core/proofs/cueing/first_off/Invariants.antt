use Rattle.std.proofs.Common.{◌≡◌, ℕ, ◌<◌, ◌≤◌, ◌+◌, ◌*◌, ◌^◌}
use Rattle.judge_core.specs.Comparing.{IsOffAt, cue_start}
use Rattle.judge_core.proofs.cueing.first_off.Given as goal

abbrev pub invariant-loop-cue : goal.invariant-loop-cue
invariant-loop-cue l = record {
  start : l.start ≡ cue_start l.cut l.cue;
  bound : l.start ≤ l.cue * (2 ^ 36 + 4096);
  none : (i : ℕ) → i < l.cue → (p : ℕ) → IsOffAt l.cut l.channel i l.done l.part p → ⊥;
}
