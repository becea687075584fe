use Rattle.std.proofs.Common.{◌≡◌, ℕ, ◌+◌, ◌*◌, ◌<◌, [], length, get_or, slice_index}
use Rattle.dsd_bits.specs.Lacing.{frame_number}
use Rattle.dsd_bits.specs.Packing.{packed}
use Rattle.dsd_bits.specs.Rooms.{rooms_bits}
use Rattle.dsd_bits.proofs.room_lacing.lace_rooms.Given as goal

abbrev pub invariant-loop-c : goal.invariant-loop-c
invariant-loop-c l = record {
  size : length l.to ≡ length l.fn.to;
  done : (frame c : ℕ) → frame < frame_number (rooms_bits l.rooms) → c < l.c → slice_index l.to (frame * length l.rooms + c) ≡ slice_index (packed (get_or (rooms_bits l.rooms) c [])) frame;
}
