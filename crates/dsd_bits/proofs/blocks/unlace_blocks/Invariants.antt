use Rattle.std.proofs.Common.{◌≡◌, ◌≤◌, map, vec_len, vec_capacity}
use Rattle.std.specs.List.{range_with_len}
use Rattle.dsd_bits.specs.Blocks.{unblocked}
use Rattle.dsd_bits.proofs.blocks.unlace_blocks.Given as goal

abbrev pub invariant-loop-c : goal.invariant-loop-c
invariant-loop-c l = record {
  items : l.made.items ≡ map (unblocked l.order l.bytes l.channels l.count) (range_with_len 0 l.c);
  len : vec_len l.made ≡ l.c;
  room : l.channels ≤ vec_capacity l.made;
}
