use Rattle.std.proofs.Common.{◌≡◌, map, take}
use Rattle.dsd_bits.specs.Contents.{mark_content}
use Rattle.judge_core.proofs.comparing.same_marks.Given as goal

abbrev pub invariant-loop-i : goal.invariant-loop-i
invariant-loop-i l = record { same : take l.i (map mark_content l.a) ≡ take l.i (map mark_content l.b) }
