use Rattle.std.proofs.Common.{◌≡◌, ◌+◌, ◌*◌, ◌/◌, ◌++◌, ◌∙◌, length, vec_len, take, length-append, ap, arith}
use Rattle.std.proofs.lemmas.Nat.{mul-le}
use Rattle.dsd_bits.specs.Lacing.{frame_number}
use Rattle.dsd_bits.specs.Rooms.{rooms_bits}
use Rattle.dsd_bits.proofs.RoomLemmas.{room_long}
use Rattle.dsd_bits.proofs.ShiftingLemmas.{written_after}
use Rattle.dsd_bits.proofs.room_lacing.push_laced_rooms.Goals as goal
use Rattle.dsd_bits.proofs.room_lacing.push_laced_rooms.Goals.{After-len-frames}

-- the bytes that there are in the end
all_bytes : (c : After-len-frames) → c.len-kept.result + c.len-frames.result / 8 * length c.args.rooms.now ≡ vec_len c.args.out.now + frame_number (rooms_bits c.args.rooms.now) * length c.args.rooms.now
all_bytes c =
    let long = c.len-frames.ensures.value ∙ room_long c.args.rooms.now c.requires.level 0 c.index-rooms-0.result (omega arith) c.index-rooms-0.is in
    ap (λ n. n + c.len-frames.result / 8 * length c.args.rooms.now) c.len-kept.ensures ∙ ap (λ n. vec_len c.args.out.now + n / 8 * length c.args.rooms.now) long

pub overflow_mul-frames : goal.overflow_mul-frames
overflow_mul-frames c = omega (arith, mul-le (c.len-frames.result / 8) (length c.args.rooms.now) 8589934592 6 (omega (arith, c.len-frames.ensures)) c.requires.channel_number.1)

pub unreachable-requires : goal.unreachable-requires
unreachable-requires c = omega (arith, all_bytes (goal.at.unreachable-requires c).After-len-frames, c.in-Err.ensures.full, c.requires.held)

pub lace_rooms-requires : goal.lace_rooms-requires
lace_rooms-requires c = record {
  channel_number = c.requires.channel_number.0;
  level = c.requires.level;
  whole_bytes = c.requires.whole_bytes;
  size = omega (arith, all_bytes (goal.at.lace_rooms-requires c).After-len-frames, c.split_at_mut-to.ensures.back_len, c.as_mut_slice.ensures.len, c.in-Ok.ensures.len, c.len-kept.ensures);
}

pub returns : goal.returns
returns c =
    let old = c.args.out.now.items in
    let prefix = c.split_at_mut-to.result.0.now in
    let new = c.lace_rooms.new.to in
    record {
      text =
          written_after old _ c.resize.new.self.items prefix new _ c.len-kept.result (c.len-kept.result + c.len-frames.result / 8 * length c.args.rooms.now) c.resize.new.self.len
          (omega (arith, c.len-kept.ensures, c.args.out.now.ok.0)) (omega arith) c.in-Ok.ensures.items (c.split_at_mut-to.ensures.front ∙ ap (take c.len-kept.result) c.as_mut_slice.ensures.value)
          (omega (arith, length-append prefix new, c.split_at_mut-to.ensures.front_len, c.split_at_mut-to.ensures.back_len, c.lace_rooms.auto.to, c.as_mut_slice.ensures.len, c.resize.new.self.ok.0))
          ∙ ap (λ xs. old ++ xs) c.lace_rooms.ensures;
      capacity = c.resize.ensures.capacity;
    }
