-- The bytes of one channel in groups of sound bytes.
use Rattle.std.proofs.Common.{◌≡◌, ℕ, ◌+◌, ◌*◌, ◌/◌, ◌%◌, ◌<◌, ◌≤◌, List, map, length, slice_index, sym, ap, ◌∙◌, arith}
use Rattle.std.specs.List.{range_with_len}
use Rattle.std.proofs.lemmas.Grind.{same_number_lists}
use Rattle.std.proofs.lemmas.Simd.{map-map}
use Rattle.std.proofs.lemmas.List.FromFn.{get_or-map-range_with_len, length-map-range_with_len}
use Rattle.dsd_bits.specs.declared.blocks.BitOrder.{BitOrder}
use Rattle.dsd_bits.specs.declared.interleaving.Interleaving.{Interleaving}
use Rattle.dsd_bits.specs.declared.interleaving.Interleaving.TheVariants.{Bytes, Blocks}
use Rattle.dsd_bits.specs.Blocks.{ordered}
use Rattle.std.proofs.Math.Nat.{div-mul-le_self}
use Rattle.std.proofs.lemmas.Nat.{mul-add-lt}
use Rattle.dsd_bits.proofs.BlockLemmas.{own_blocks, block_source}
use Rattle.player_core.specs.Groups.{channel_byte, channel_part}

pub length-part : (interleaving : Interleaving) (channels : ℕ) (bytes : List ℕ) (c from number : ℕ) → length (channel_part interleaving channels bytes c from number) ≡ number
length-part interleaving channels bytes c from number = length-map-range_with_len (channel_byte interleaving channels bytes c) from number

-- ---- a byte of each channel in turn
pub strided_is : (to bytes : List ℕ) (channels c : ℕ) → ((frame : ℕ) → frame < length to → slice_index to frame ≡ slice_index bytes (frame * channels + c)) → to ≡ channel_part Bytes channels bytes c 0 (length to)
strided_is to bytes channels c at =
    let f : ℕ → ℕ = λ p. slice_index bytes ((p / 1 * channels + c) * 1 + p % 1) in
    same_number_lists to (map f (range_with_len 0 (length to))) (sym (length-map-range_with_len f 0 (length to)))
    (λ k h.
    let q : k / 1 ≡ k = omega arith in
    let place : (k / 1 * channels + c) * 1 + k % 1 ≡ k * channels + c = ap (λ n. (n * channels + c) * 1 + k % 1) q ∙ omega arith in
    at k h ∙ ap (slice_index bytes) (sym place) ∙ sym (get_or-map-range_with_len f 0 (length to) k k 0 h (omega arith)))

-- ---- blocks of each channel in turn
pub blocks_are : (order : BitOrder) (channels : ℕ) (bytes : List ℕ) (c number : ℕ) → map (ordered order) (own_blocks bytes channels c number) ≡ channel_part (Blocks order) channels bytes c 0 number
blocks_are order channels bytes c number = map-map (ordered order) (block_source bytes channels c) (range_with_len 0 number)

-- a block, or its prefix, is in the bytes
pub block_within : (channels c number group w size : ℕ) → c < channels → w ≤ 4096 → 4096 * group < number → number ≤ size / (channels * 4096) * 4096 → (group * channels + c) * 4096 + w ≤ size
block_within channels c number group w size low prefix some enough =
    let groups = size / (channels * 4096) in
    let row : group * channels + c < channels * groups = mul-add-lt group channels c groups (omega (arith, enough)) low in
    let whole : groups * (channels * 4096) ≤ size = div-mul-le_self size (channels * 4096) in
    let turned : groups * (channels * 4096) ≡ channels * groups * 4096 = grind arith in
    omega (arith, row, whole, turned)
