use Rattle.std.proofs.Common.{◌≡◌, ◌*◌, min}
use Rattle.dsd_bits.specs.Lacing.{picked}
use Rattle.dsd_bits.proofs.lacing.unlace_two.Given as goal

abbrev pub invariant-loop-part : goal.invariant-loop-part
invariant-loop-part l = record {
  left : l.left.items ≡ picked l.bytes 2 0 0 (min (4096 * l.part) l.frames);
  right : l.right.items ≡ picked l.bytes 2 1 0 (min (4096 * l.part) l.frames);
}
