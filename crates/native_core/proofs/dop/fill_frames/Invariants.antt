use Rattle.std.proofs.Common.{◌≡◌, ◌*◌, length, take}
use Rattle.std.specs.List.{flat_map, range_with_len}
use Rattle.native_core.specs.Native.{dop_sample}
use Rattle.native_core.proofs.dop.fill_frames.Given as goal

abbrev pub invariant-loop-frame : goal.invariant-loop-frame
invariant-loop-frame g l = record {
  size : length l.to ≡ length l.fn.to;
  written : take (3 * (l.frame * g.row.N)) l.to ≡ flat_map (dop_sample g.row.N l.bytes) (range_with_len 0 (l.frame * g.row.N));
}
