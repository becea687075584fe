use Rattle.std.proofs.Common.{◌≡◌, ◌≢◌, ◌+◌, ◌*◌, [], length, get_or, slice_index, inl, inr, sym, ap, ◌∙◌, arith, mul_comm}
use Rattle.std.proofs.lemmas.Bool.{cases_lt}
use Rattle.dsd_bits.specs.Lacing.{frame_number}
use Rattle.dsd_bits.specs.Packing.{packed}
use Rattle.dsd_bits.specs.Rooms.{rooms_bits}
use Rattle.dsd_bits.proofs.LacingLemmas.{laced_two_are}
use Rattle.dsd_bits.proofs.RoomLemmas.{laced_is, laced_part_all, length-rooms_bits, room_bytes, room_frames}
use Rattle.dsd_bits.proofs.room_lacing.lace_rooms.Goals as goal
use Rattle.dsd_bits.proofs.room_lacing.lace_rooms.Goals.{After-as_bytes-in-loop-c, After-as_bytes-then-rooms-eq2}

-- both channels have as many bytes
first : (c : After-as_bytes-then-rooms-eq2) → length c.as_bytes.result.now ≡ frame_number (rooms_bits c.args.rooms.now)
first c = room_frames c.args.rooms.now c.requires.level 0 c.index-rooms-0.result (omega arith) c.index-rooms-0.is c.as_bytes.result.now c.as_bytes.ensures c.requires.whole_bytes

second : (c : After-as_bytes-then-rooms-eq2) → length c.as_bytes-then-rooms-eq2.result.now ≡ frame_number (rooms_bits c.args.rooms.now)
second c = room_frames c.args.rooms.now c.requires.level 1 c.index-rooms-1.result (omega arith) c.index-rooms-1.is c.as_bytes-then-rooms-eq2.result.now c.as_bytes-then-rooms-eq2.ensures c.requires.whole_bytes

pub lace_two-requires-clause-left : goal.lace_two-requires-clause-left
lace_two-requires-clause-left c =
    let frames = frame_number (rooms_bits c.args.rooms.now) in
    let two : length c.args.rooms.now ≡ 2 = omega arith in
    c.requires.size ∙ ap (λ n. frames * n) two ∙ omega (arith, first (goal.at.lace_two-requires-clause-left c).After-as_bytes-then-rooms-eq2)

pub lace_two-requires-clause-right : goal.lace_two-requires-clause-right
lace_two-requires-clause-right c =
    let here = (goal.at.lace_two-requires-clause-right c).After-as_bytes-then-rooms-eq2 in
    second here ∙ sym (first here)

pub returns-then-rooms-eq2 : goal.returns-then-rooms-eq2
returns-then-rooms-eq2 c =
    let here = (goal.at.returns-then-rooms-eq2 c).After-as_bytes-then-rooms-eq2 in
    let rooms = c.args.rooms.now in
    let channels = rooms_bits rooms in
    let frames = frame_number channels in
    let many = length-rooms_bits rooms in
    let two : length channels ≡ 2 = omega (arith, many) in
    let left = room_bytes rooms c.requires.level 0 c.index-rooms-0.result (omega arith) c.index-rooms-0.is c.as_bytes.result.now c.as_bytes.ensures in
    let right = room_bytes rooms c.requires.level 1 c.index-rooms-1.result (omega arith) c.index-rooms-1.is c.as_bytes-then-rooms-eq2.result.now c.as_bytes-then-rooms-eq2.ensures in
    laced_two_are channels c.requires.level c.requires.whole_bytes (omega (arith, two)) c.lace_two.new.to 0 frames two (omega arith) (c.lace_two.auto.to ∙ c.requires.size ∙ ap (λ n. frames * n) (sym many))
    (λ frame h. (let e : frame ≡ 0 + frame = omega arith in c.lace_two.ensures.left frame (omega (arith, first here)) ∙ ap (λ l. slice_index l frame) left ∙ ap (slice_index (packed (get_or channels 0 []))) e))
    (λ frame h. (let e : frame ≡ 0 + frame = omega arith in c.lace_two.ensures.right frame (omega (arith, first here)) ∙ ap (λ l. slice_index l frame) right ∙ ap (slice_index (packed (get_or channels 1 []))) e))
    ∙ laced_part_all channels

-- a channel has as many bytes as there are frames
own : (c : After-as_bytes-in-loop-c) → length c.as_bytes-in-loop-c.result.now ≡ frame_number (rooms_bits c.args.rooms.now)
own c = room_frames c.args.rooms.now c.requires.level c.loop-c.c c.index-rooms-c.result (omega arith) c.index-rooms-c.is c.as_bytes-in-loop-c.result.now c.as_bytes-in-loop-c.ensures c.requires.whole_bytes

pub spread-requires-clause-enough : goal.spread-requires-clause-enough
spread-requires-clause-enough c =
    let frames = frame_number (rooms_bits c.args.rooms.now) in
    let n = length c.args.rooms.now in
    let size : length c.loop-c.to ≡ frames * n = c.loop-c.invariant.size ∙ c.requires.size in
    let same : n * length c.as_bytes-in-loop-c.result.now ≡ frames * n = ap (λ m. n * m) (own (goal.at.spread-requires-clause-enough c).After-as_bytes-in-loop-c) ∙ mul_comm n frames in
    omega (arith, size, same)

pub loop-c-preserved : goal.loop-c-preserved
loop-c-preserved c =
    let here = (goal.at.loop-c-preserved c).After-as_bytes-in-loop-c in
    let rooms = c.args.rooms.now in
    let channels = rooms_bits rooms in
    let n = length rooms in
    let i = c.loop-c.c in
    let bytes = room_bytes rooms c.requires.level i c.index-rooms-c.result (omega arith) c.index-rooms-c.is c.as_bytes-in-loop-c.result.now c.as_bytes-in-loop-c.ensures in
    record {
      size = c.spread.auto.to ∙ c.loop-c.invariant.size;
      done = λ frame d below h. elim (cases_lt d i) [
        | inl low ↦ (let apart : d ≢ i = λ e. omega arith in c.spread.ensures.others frame d (omega arith) apart ∙ c.loop-c.invariant.done frame d below low)
        | inr high ↦
            let e : d ≡ i = omega arith in
            ap (λ k. slice_index c.spread.new.to (frame * n + k)) e ∙ c.spread.ensures.own frame (omega (arith, own here)) ∙ ap (λ l. slice_index l frame) bytes ∙ ap (λ k. slice_index (packed (get_or channels k [])) frame) (sym e)
      ];
    }

pub returns-after-loop-c : goal.returns-after-loop-c
returns-after-loop-c c =
    let rooms = c.args.rooms.now in
    let channels = rooms_bits rooms in
    let many = length-rooms_bits rooms in
    laced_is channels c.requires.level c.requires.whole_bytes (omega (arith, many)) c.loop-c.to (c.loop-c.invariant.size ∙ c.requires.size ∙ ap (λ n. frame_number channels * n) (sym many))
    (λ frame d below h. ap (λ n. slice_index c.loop-c.to (frame * n + d)) many ∙ c.loop-c.invariant.done frame d below (omega (arith, many)))
