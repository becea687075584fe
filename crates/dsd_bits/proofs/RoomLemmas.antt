-- Bits in rooms, and their sound bytes.
use Rattle.std.proofs.Common.{◌≡◌, ℕ, ◌+◌, ◌*◌, ◌%◌, ◌<◌, ◌≤◌, Bool, List, [], length, map, get_or, slice_index, sym, ap, ◌∙◌, arith}
use Rattle.std.proofs.lemmas.List.{get_or-map, length-map}
use Rattle.std.proofs.lemmas.List.FromFn.{length-map-range_with_len}
use Rattle.std.specs.List.{range_with_len}
use Rattle.std.specs.Int.{div_ceil}
use Rattle.dsd_bits.specs.Channels.{IsLevel, count_of}
use Rattle.dsd_bits.specs.Lacing.{frame_number, laced, laced_byte, laced_part}
use Rattle.dsd_bits.specs.Packing.{packed, packed_byte}
use Rattle.dsd_bits.specs.Rooms.{RoomContent, rooms_bits}
use Rattle.dsd_bits.proofs.LacingLemmas.{laced_part_is}

-- as many lists of bits as rooms
pub length-rooms_bits : (rooms : List RoomContent) → length (rooms_bits rooms) ≡ length rooms
length-rooms_bits rooms = length-map rooms (λ (room : RoomContent). room.bits)

-- the bits of a room, by its place
pub room_at : (rooms : List RoomContent) (c : ℕ) (room : RoomContent) (d : List Bool) → c < length rooms → room ≡ get_or rooms c room → get_or (rooms_bits rooms) c d ≡ room.bits
room_at rooms c room d lt is = get_or-map (λ (r : RoomContent). r.bits) rooms c room d lt ∙ ap (λ (r : RoomContent). r.bits) (sym is)

-- a room has as many bits as the first
pub room_long : (rooms : List RoomContent) → IsLevel (rooms_bits rooms) → (c : ℕ) (room : RoomContent) → c < length rooms → room ≡ get_or rooms c room → length room.bits ≡ count_of (rooms_bits rooms)
room_long rooms level c room lt is = ap length (sym (room_at rooms c room [] lt is)) ∙ level.same c [] (omega (arith, lt, length-rooms_bits rooms))

-- the bytes of a room
module _ (rooms : List RoomContent) (level : IsLevel (rooms_bits rooms)) (c : ℕ) (room : RoomContent) (lt : c < length rooms) (is : room ≡ get_or rooms c room) (bytes : List ℕ) (bytes_are : bytes ≡ packed room.bits) where
  pub room_bytes : bytes ≡ packed (get_or (rooms_bits rooms) c [])
  room_bytes = bytes_are ∙ ap packed (sym (room_at rooms c room [] lt is))

  pub room_frames : count_of (rooms_bits rooms) % 8 ≡ 0 → length bytes ≡ frame_number (rooms_bits rooms)
  room_frames whole =
      ap length bytes_are ∙ length-map-range_with_len (packed_byte room.bits) 0 (div_ceil (length room.bits) 8) ∙ omega (arith, room_long rooms level c room lt is, whole)

-- all frames are the sound bytes
pub laced_part_all : (channels : List (List Bool)) → laced_part channels 0 (frame_number channels) ≡ laced channels
laced_part_all channels = let zero : 0 * length channels ≡ 0 = omega arith in ap (λ a. map (laced_byte channels) (range_with_len a (frame_number channels * length channels))) zero

pub laced_is : (channels : List (List Bool)) → IsLevel channels → count_of channels % 8 ≡ 0 → 1 ≤ length channels → (to : List ℕ) → length to ≡ frame_number channels * length channels
    → ((frame c : ℕ) → frame < frame_number channels → c < length channels → slice_index to (frame * length channels + c) ≡ slice_index (packed (get_or channels c [])) frame)
    → to ≡ laced channels
laced_is channels level whole some to size at =
    laced_part_is channels level whole some to 0 (frame_number channels) (omega arith) size (λ frame c below in_list. (let e : frame ≡ 0 + frame = omega arith in at frame c below in_list ∙ ap (slice_index (packed (get_or channels c []))) e)) ∙ laced_part_all channels
