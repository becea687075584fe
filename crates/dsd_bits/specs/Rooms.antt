-- Bits whose memory is reserved.
use Rattle.std.specs.Prelude.{ℕ, Bool, List, map}

-- what a `BitRoom` holds: its bits, and the number of bits that there may be
pub record RoomContent : Type 0 where
  pub bits : List Bool
  pub most : ℕ

-- the bits in each `BitRoom` of a list
abbrev pub rooms_bits : List RoomContent → List (List Bool)
rooms_bits rooms = map (λ room. room.bits) rooms
