use Rattle.std.proofs.Common.{◌≡◌, ◌≤◌, ◌+◌, ◌*◌, ◌^◌, take}
use Rattle.std.specs.List.{sum_by}
use Rattle.splice_core.specs.Splices.{splice_content}
use Rattle.cut_core.specs.Cuts.{span}
use Rattle.cut_core.proofs.fitting.master_length.Given as goal

abbrev pub invariant-loop-i : goal.invariant-loop-i
invariant-loop-i l = record {
  sum : l.length ≡ sum_by span (take l.i (splice_content l.splice).cues);
  bound : l.length ≤ l.i * (2 ^ 36 + 4096);
}
