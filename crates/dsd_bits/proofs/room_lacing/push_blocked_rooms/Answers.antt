use Rattle.std.proofs.Common.{◌≡◌, ◌+◌, ◌*◌, ◌/◌, ◌%◌, ◌++◌, ◌<◌, List, ℕ, ◌≤◌, get_or, length, map, slice_index, append_assoc, sym, ap, ◌∙◌, arith, subst}
use Rattle.std.proofs.lemmas.List.{append-nil}
use Rattle.std.proofs.lemmas.Nat.{mod_below, mul-le}
use Rattle.std.specs.List.{range_with_len}
use Rattle.std.specs.Int.{div_ceil}
use Rattle.dsd_bits.specs.Blocks.{block_byte, blocks_size, ordered}
use Rattle.dsd_bits.specs.Channels.{count_of}
use Rattle.dsd_bits.specs.Rooms.{RoomContent, rooms_bits}
use Rattle.dsd_bits.proofs.BlockLemmas.{group_in_bounds, groups_are, one_block, room_for_more}
use Rattle.dsd_bits.proofs.RoomLemmas.{length-rooms_bits, room_at}
use Rattle.dsd_bits.proofs.room_lacing.push_blocked_rooms.Goals as goal
use Rattle.dsd_bits.proofs.room_lacing.push_blocked_rooms.Goals.{After-as_bytes-bytes}

-- the blocks are those of the channels
blocks_are : (rooms : List RoomContent) (room : RoomContent) (n groups : ℕ) → 1 ≤ length rooms → room ≡ get_or rooms 0 room → n ≡ length room.bits → groups ≡ div_ceil n 32768 → groups * length rooms ≡ div_ceil (count_of (rooms_bits rooms)) 32768 * length rooms
blocks_are rooms room n groups some is n_is groups_is = ap (λ g. g * length rooms) (groups_are (rooms_bits rooms) room.bits n groups (omega (arith, some, length-rooms_bits rooms)) (sym (room_at rooms 0 room room.bits some is)) n_is groups_is)

many : (c : After-as_bytes-bytes) → length (rooms_bits c.args.rooms.now) ≡ length c.args.rooms.now
many c = length-rooms_bits c.args.rooms.now

within : (c : After-as_bytes-bytes) → c.loop-block.block < div_ceil (count_of (rooms_bits c.args.rooms.now)) 32768 * length (rooms_bits c.args.rooms.now)
within c =
    let channels = rooms_bits c.args.rooms.now in
    let same = blocks_are c.args.rooms.now c.index-rooms-0.result c.len.result c.div_ceil.result c.requires.channel_number.0 c.index-rooms-0.is c.len.ensures.value c.div_ceil.ensures ∙ ap (λ n. div_ceil (count_of channels) 32768 * n) (sym (many c)) in
    omega (arith, same, c.loop-block-test.true)

-- the room of the block is the one of its channel
own : (c : After-as_bytes-bytes) → c.index-rooms-block.result.bits ≡ get_or (rooms_bits c.args.rooms.now) (c.loop-block.block % length (rooms_bits c.args.rooms.now)) c.index-rooms-block.result.bits
own c =
    let bits = c.index-rooms-block.result.bits in
    let there : c.loop-block.block % length c.args.rooms.now < length c.args.rooms.now = mod_below c.loop-block.block (length c.args.rooms.now) (omega arith) in
    sym (ap (λ n. get_or (rooms_bits c.args.rooms.now) (c.loop-block.block % n) bits) (many c) ∙ room_at c.args.rooms.now (c.loop-block.block % length c.args.rooms.now) c.index-rooms-block.result bits there c.index-rooms-block.is)

pub push_held_block-requires-clause-in_bytes : goal.push_held_block-requires-clause-in_bytes
push_held_block-requires-clause-in_bytes c =
    let here = (goal.at.push_held_block-requires-clause-in_bytes c).After-as_bytes-bytes in
    subst (λ n. 4096 * (c.loop-block.block / n) ≤ length c.as_bytes-bytes.result.now) (many here)
    (group_in_bounds (rooms_bits c.args.rooms.now) c.requires.level (omega (arith, many here)) c.loop-block.block (within here) c.index-rooms-block.result.bits c.as_bytes-bytes.result.now (own here) c.as_bytes-bytes.ensures)

pub push_held_block-requires-clause-held : goal.push_held_block-requires-clause-held
push_held_block-requires-clause-held c =
    room_for_more c.loop-block.out.items c.args.out.now.items (block_byte c.args.order (rooms_bits c.args.rooms.now)) _ _ c.loop-block.block _ _ c.loop-block.invariant.items c.loop-block.out.ok.0 c.args.out.now.ok.0 c.loop-block-test.true c.loop-block.invariant.room

pub loop-block-preserved : goal.loop-block-preserved
loop-block-preserved c =
    let here = (goal.at.loop-block-preserved c).After-as_bytes-bytes in
    let channels = rooms_bits c.args.rooms.now in
    let old = c.args.out.now.items in
    let bytes = c.as_bytes-bytes.result.now in
    let part : ℕ → List ℕ = λ n. map (ordered c.args.order) (map (slice_index bytes) (range_with_len (4096 * (c.loop-block.block / n)) 4096)) in
    let more = one_block channels c.requires.level (omega (arith, many here)) c.loop-block.block (within here) c.index-rooms-block.result.bits bytes (own here) c.as_bytes-bytes.ensures c.args.order in
    let block : List ℕ = part (length c.args.rooms.now) in
    let before : List ℕ = map (block_byte c.args.order channels) (range_with_len 0 (4096 * c.loop-block.block)) in
    let e : 4096 * c.loop-block.block + 4096 ≡ 4096 * (c.loop-block.block + 1) = omega arith in
    record {
      items =
          c.push_held_block.ensures.block ∙ ap (λ (xs : List ℕ). xs ++ block) c.loop-block.invariant.items ∙ append_assoc old before block
          ∙ ap (λ (xs : List ℕ). old ++ xs) (ap (λ n. before ++ part n) (sym (many here)) ∙ more ∙ ap (λ m. map (block_byte c.args.order channels) (range_with_len 0 m)) e);
      room = omega (arith, c.loop-block.invariant.room, c.push_held_block.ensures.capacity);
      capacity = omega (arith, c.loop-block.invariant.capacity, c.push_held_block.ensures.capacity);
    }

pub overflow_mul-blocks : goal.overflow_mul-blocks
overflow_mul-blocks c = omega (arith, mul-le c.div_ceil.result (length c.args.rooms.now) 2097152 6 (omega (arith, c.div_ceil.ensures, c.len.ensures)) c.requires.channel_number.1)

pub loop-block-init : goal.loop-block-init
loop-block-init c =
    let blocks = blocks_are c.args.rooms.now c.index-rooms-0.result c.len.result c.div_ceil.result c.requires.channel_number.0 c.index-rooms-0.is c.len.ensures.value c.div_ceil.ensures in
    record {
      items = sym (append-nil c.args.out.now.items);
      room = omega (arith, blocks, c.requires.held);
      capacity = omega arith;
    }

pub returns : goal.returns
returns c =
    let rooms = c.args.rooms.now in
    let channels = rooms_bits rooms in
    let blocks = blocks_are rooms c.index-rooms-0.result c.len.result c.div_ceil.result c.requires.channel_number.0 c.index-rooms-0.is c.len.ensures.value c.div_ceil.ensures ∙ ap (λ n. div_ceil (count_of channels) 32768 * n) (sym (length-rooms_bits rooms)) in
    let all : 4096 * c.loop-block.block ≡ blocks_size (length channels) (count_of channels) = omega (arith, blocks, c.loop-block.auto.block-end, c.loop-block-test.false) in
    record {
      text = c.loop-block.invariant.items ∙ ap (λ n. c.args.out.now.items ++ map (block_byte c.args.order channels) (range_with_len 0 n)) all;
      capacity = c.loop-block.invariant.capacity;
    }
