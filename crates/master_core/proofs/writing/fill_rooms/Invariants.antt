use Rattle.std.proofs.Common.{◌≡◌, map}
use Rattle.dsd_bits.specs.Rooms.{rooms_bits}
use Rattle.master_core.proofs.WritingLaws.{ArePartsUpTo, room_most}
use Rattle.master_core.proofs.writing.fill_rooms.Given as goal

abbrev pub invariant-loop-channel : goal.invariant-loop-channel
invariant-loop-channel l = record {
  parts : ArePartsUpTo l.source.cut.now l.range l.channel (rooms_bits l.rooms.items);
  most : map room_most l.rooms.items ≡ map room_most l.fn.rooms.items;
}
