use Rattle.std.proofs.Common.{◌≡◌, ◌≤◌, ◌+◌, ◌*◌, ◌++◌, map, vec_len, vec_capacity}
use Rattle.std.specs.List.{range_with_len}
use Rattle.dsd_bits.specs.Blocks.{block_byte}
use Rattle.dsd_bits.specs.Rooms.{rooms_bits}
use Rattle.dsd_bits.proofs.room_lacing.push_blocked_rooms.Given as goal

abbrev pub invariant-loop-block : goal.invariant-loop-block
invariant-loop-block l = record {
  items : l.out.items ≡ l.fn.out.items ++ map (block_byte l.order (rooms_bits l.rooms)) (range_with_len 0 (4096 * l.block));
  room : vec_len l.fn.out + 4096 * l.blocks ≤ vec_capacity l.out;
  capacity : vec_capacity l.fn.out ≤ vec_capacity l.out;
}
