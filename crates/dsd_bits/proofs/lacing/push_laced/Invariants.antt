use Rattle.std.proofs.Common.{◌≡◌, ◌≤◌, ◌+◌, ◌*◌, ◌++◌, min, length, vec_len, vec_capacity}
use Rattle.dsd_bits.specs.Lacing.{laced_part}
use Rattle.dsd_bits.proofs.lacing.push_laced.Given as goal

abbrev pub invariant-loop-part : goal.invariant-loop-part
invariant-loop-part l = record {
  items : l.out.items ≡ l.fn.out.items ++ laced_part l.channels 0 (min (4096 * l.part) l.frames);
  room : vec_len l.fn.out + l.frames * length l.channels ≤ vec_capacity l.out;
}
