use Rattle.std.proofs.Common.{◌≡◌, ◌≤◌, ◌+◌, ◌*◌, ◌++◌, map, vec_len, vec_capacity}
use Rattle.std.specs.List.{range_with_len}
use Rattle.dsd_bits.specs.Blocks.{block_byte}
use Rattle.dsd_bits.proofs.blocks.push_blocks.Given as goal

abbrev pub invariant-loop-block : goal.invariant-loop-block
invariant-loop-block l = record {
  items : l.out.items ≡ l.fn.out.items ++ map (block_byte l.order l.channels) (range_with_len 0 (4096 * l.block));
  room : vec_len l.fn.out + 4096 * l.blocks ≤ vec_capacity l.out;
}
