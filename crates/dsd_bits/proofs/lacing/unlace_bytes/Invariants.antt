use Rattle.std.proofs.Common.{◌≡◌, ◌≤◌, map, vec_len, vec_capacity}
use Rattle.std.specs.List.{range_with_len}
use Rattle.dsd_bits.specs.Lacing.{unlaced}
use Rattle.dsd_bits.proofs.lacing.unlace_bytes.Given as goal

abbrev pub invariant-loop-c : goal.invariant-loop-c
invariant-loop-c l = record {
  items : l.made.items ≡ map (unlaced l.bytes l.channels) (range_with_len 0 l.c);
  len : vec_len l.made ≡ l.c;
  room : l.channels ≤ vec_capacity l.made;
}
