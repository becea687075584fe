use Rattle.std.proofs.Common.{◌≡◌, ℕ, ◌+◌, ◌*◌, ◌<◌, length, slice_index}
use Rattle.dsd_bits.specs.Shifting.{byte_from}
use Rattle.dsd_bits.proofs.packing.shift_into.Given as goal

abbrev pub invariant-loop-k : goal.invariant-loop-k
invariant-loop-k l = record {
  size : length l.to ≡ length l.fn.to;
  before : (j : ℕ) → j < l.kept → slice_index l.to j ≡ slice_index l.fn.to j;
  after : (j : ℕ) → j < l.k → slice_index l.to (l.kept + j) ≡ byte_from l.source (l.at + 8 * j);
}
