use Rattle.std.proofs.Common.{◌≡◌, ◌≤◌, vec_len, vec_capacity}
use Rattle.master_core.specs.Writing.{AreRooms}
use Rattle.master_core.proofs.writing.bit_rooms.Given as goal

abbrev pub invariant-loop-k : goal.invariant-loop-k
invariant-loop-k l = record {
  rooms : AreRooms l.k l.most l.made.items;
  len : vec_len l.made ≡ l.k;
  room : l.number ≤ vec_capacity l.made;
}
