use Rattle.std.proofs.Common.{◌≡◌, ◌*◌, length, take, w32}
use Rattle.std.specs.Int.{int_wrap}
use Rattle.fir_core.specs.Signed.{dot, bits_of}
use Rattle.fir_core.proofs.LaneSums.{lanes_sum, AllFit}
use Rattle.fir_core.proofs.lanes.dot_by_lanes.Given as goal

abbrev pub invariant-loop-i : goal.invariant-loop-i
invariant-loop-i l = record {
  sized : length l.lanes ≡ 8;
  fit : AllFit l.lanes;
  right : int_wrap w32 (lanes_sum l.lanes) ≡ int_wrap w32 (dot (take (8 * l.i) l.taps) (bits_of l.bytes));
}
