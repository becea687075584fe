use Rattle.std.proofs.Common.{◌≡◌, ℕ, ◌<◌, length, slice_index}
use Rattle.dop_core.specs.Reading.{dop_byte}
use Rattle.dop_core.proofs.channels.pick.Given as goal

abbrev pub invariant-loop-p : goal.invariant-loop-p
invariant-loop-p l = record {
  size : length l.to ≡ length l.fn.to;
  done : (j : ℕ) → j < l.p → slice_index l.to j ≡ dop_byte l.channels l.sound l.c j;
}
