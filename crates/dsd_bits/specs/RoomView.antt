-- What a `BitRoom` means.
use Rattle.std.specs.Prelude.{◌*◌, ◌≤◌, vec_capacity}
use Rattle.dsd_bits.specs.declared.room.BitRoom.TheInside.{Inside}
use Rattle.dsd_bits.specs.Limits.{most_bits}
use Rattle.dsd_bits.specs.Packing.{IsTight, unpacked}
use Rattle.dsd_bits.specs.Rooms.{RoomContent}

-- what the fields of a `BitRoom` mean: the bits in the bytes, and the reserved number of bits
abbrev pub room_content : Inside → RoomContent
room_content x = record { bits = unpacked x.bytes.items x.count; most = x.most }

-- the bytes hold exactly the bits, and memory for the greatest number of bits is reserved
pub record KeepsRoom (x : Inside) : Type 0 where
  pub tight : IsTight x.bytes.items x.count
  pub in_limit : x.most ≤ most_bits
  pub held : x.most ≤ 8 * vec_capacity x.bytes
