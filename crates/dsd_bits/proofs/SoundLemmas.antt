-- The sound bytes that channels need, among other bytes.
use Rattle.std.proofs.Common.{◌≡◌, ℕ, ◌+◌, ◌/◌, ◌%◌, ◌<◌, ◌≤◌, eqb, List, take, get_or-take, ap, arith}
use Rattle.std.specs.Int.{bit_at}
use Rattle.dsd_bits.specs.declared.blocks.BitOrder.{BitOrder}
use Rattle.dsd_bits.specs.Blocks.{block_place, bit_number, blocks_size, unblocked_all}
use Rattle.dsd_bits.proofs.BlockLemmas.{block_inside}
use Rattle.dsd_bits.proofs.LacingLemmas.{map_range_same}

-- channels in blocks are read from the blocks that they need
pub unblocked_all-take : (order : BitOrder) (bytes : List ℕ) (channels count size : ℕ) → blocks_size channels count ≤ size → unblocked_all order (take size bytes) channels count ≡ unblocked_all order bytes channels count
unblocked_all-take order bytes channels count size enough =
    map_range_same channels _ _ (λ c in_list. map_range_same count _ _ (λ i below.
    let inside = block_inside channels c count (i / 32768) (i % 32768 / 8 + 1) size in_list (omega arith) (omega arith) enough in
    let here : block_place channels c i < size = omega (arith, inside) in
    ap (λ (b : ℕ). eqb (bit_at b (bit_number order i)) 1) (get_or-take size bytes (block_place channels c i) 0 here)))
