use Rattle.std.proofs.Common.{◌≡◌, ◌+◌, ◌*◌, ◌/◌, ◌++◌, ◌<◌, IsOk, List, ℕ, length, map, slice_index, append_assoc, ap, ◌∙◌, arith, mul-le-mul_left, ◌≤◌}
use Rattle.std.specs.List.{range_with_len}
use Rattle.std.specs.Int.{div_ceil}
use Rattle.dsd_bits.specs.Blocks.{block_byte, blocks_size, ordered}
use Rattle.dsd_bits.specs.Channels.{count_of}
use Rattle.dsd_bits.proofs.BlockLemmas.{group_in_bounds, groups_are, one_block, room_for_more}
use Rattle.dsd_bits.proofs.blocks.push_blocks.Goals as goal
use Rattle.dsd_bits.proofs.blocks.push_blocks.Goals.{After-div_ceil, After-as_bytes-bytes, After-push_block}

-- the blocks are few
few : (c : After-div_ceil) → c.div_ceil.result * length c.args.channels.now ≤ c.div_ceil.result * 6
few c = mul-le-mul_left c.div_ceil.result c.requires.channel_number.1

within : (c : After-as_bytes-bytes) → c.loop-block.block < div_ceil (count_of c.args.channels.now) 32768 * length c.args.channels.now
within c = rw (groups_are c.args.channels.now c.index-channels-0.result c.len.result c.div_ceil.result c.requires.channel_number.0 c.index-channels-0.is c.len.ensures.value c.div_ceil.ensures) at c.loop-block-test.true

room : (c : After-push_block) → IsOk c.push_block.result
room c =
    c.push_block.ensures.succeeds (room_for_more c.loop-block.out.items c.args.out.now.items (block_byte c.args.order c.args.channels.now) _ _ c.loop-block.block _ _ c.loop-block.invariant.items c.loop-block.out.ok.0 c.args.out.now.ok.0 c.loop-block-test.true c.loop-block.invariant.room)

pub returns-in_err-push_block : goal.returns-in_err-push_block
returns-in_err-push_block c =
    let ok = room (goal.at.returns-in_err-push_block c).After-push_block in
    grind arith

pub loop-block-preserved : goal.loop-block-preserved
loop-block-preserved c =
    let channels = c.args.channels.now in
    let old = c.args.out.now.items in
    let more = one_block channels c.requires.level c.requires.channel_number.0 c.loop-block.block (within (goal.at.loop-block-preserved c).After-as_bytes-bytes) c.index-channels-block.result c.as_bytes-bytes.result.now c.index-channels-block.is c.as_bytes-bytes.ensures.packed c.args.order in
    let block : List ℕ = map (ordered c.args.order) (map (slice_index c.as_bytes-bytes.result.now) (range_with_len (4096 * (c.loop-block.block / length channels)) 4096)) in
    let before : List ℕ = map (block_byte c.args.order channels) (range_with_len 0 (4096 * c.loop-block.block)) in
    let e : 4096 * c.loop-block.block + 4096 ≡ 4096 * (c.loop-block.block + 1) = omega arith in
    record {
      items = c.in_ok-push_block.ensures.ok ∙ ap (λ (xs : List ℕ). xs ++ block) c.loop-block.invariant.items ∙ append_assoc old before block ∙ ap (λ (xs : List ℕ). old ++ xs) (more ∙ ap (λ m. map (block_byte c.args.order channels) (range_with_len 0 m)) e);
      room = omega (arith, c.loop-block.invariant.room, c.push_block.ensures.capacity);
    }

pub overflow_mul-blocks : goal.overflow_mul-blocks
overflow_mul-blocks c = omega (arith, few c)

pub overflow_mul-blocks-2 : goal.overflow_mul-blocks-2
overflow_mul-blocks-2 c = omega (arith, few (goal.at.overflow_mul-blocks-2 c).After-div_ceil)

pub push_block-requires : goal.push_block-requires
push_block-requires c =
    group_in_bounds c.args.channels.now c.requires.level c.requires.channel_number.0 c.loop-block.block (within (goal.at.push_block-requires c).After-as_bytes-bytes) c.index-channels-block.result c.as_bytes-bytes.result.now c.index-channels-block.is c.as_bytes-bytes.ensures.packed

pub returns : goal.returns
returns c =
    let channels = c.args.channels.now in
    let groups = groups_are channels c.index-channels-0.result c.len.result c.div_ceil.result c.requires.channel_number.0 c.index-channels-0.is c.len.ensures.value c.div_ceil.ensures in
    let all : 4096 * c.loop-block.block ≡ blocks_size (length channels) (count_of channels) = omega (arith, ap (λ g. g * length channels) groups, c.loop-block.auto.block-end, c.loop-block-test.false) in
    record { text = c.loop-block.invariant.items ∙ ap (λ n. c.args.out.now.items ++ map (block_byte c.args.order channels) (range_with_len 0 n)) all }
