use Rattle.std.proofs.Common.{◌≡◌, ℕ, ◌+◌, ◌*◌, ◌<◌, length, slice_index}
use Rattle.player_core.proofs.groups.pick_of_two.Given as goal

abbrev pub invariant-loop-k : goal.invariant-loop-k
invariant-loop-k l = record {
  size : length l.to ≡ length l.fn.to;
  done : (j : ℕ) → j < 16 * l.k → slice_index l.to j ≡ slice_index l.groups (j * 2 + l.channel);
}

abbrev pub invariant-loop-frame : goal.invariant-loop-frame
invariant-loop-frame l = record {
  size : length l.to ≡ length l.fn.to;
  done : (j : ℕ) → j < l.frame → slice_index l.to j ≡ slice_index l.groups (j * 2 + l.channel);
}
