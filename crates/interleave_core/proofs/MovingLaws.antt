-- Frames and blocks that are moved a group at a time.
use Rattle.std.proofs.Common.{◌≡◌, ◌⊎◌, ℕ, ◌+◌, ◌-◌, ◌*◌, ◌/◌, ◌%◌, ◌<◌, ◌≤◌, ◌^◌, min, List, [], ◌++◌, map, take, drop, length, get_or, slice_index, get_or-take, get_or-drop, sym, ap, ap₂, ◌∙◌, arith, inl, inr}
use Rattle.std.proofs.lemmas.Bool.{cases_lt}
use Rattle.std.proofs.lemmas.List.{get_or_past, get_or-map, get_or_append_left, get_or-append_right, length-map}
use Rattle.std.proofs.lemmas.Grind.{same_number_lists}
use Rattle.std.proofs.lemmas.List.FromFn.{length-map-range_with_len, get_or-map-range_with_len}
use Rattle.std.proofs.lemmas.Nat.{div-add-mod', div_below, mod_below, mul-add-lt, mul-le}
use Rattle.std.proofs.lemmas.Nat.Bits.{bit_at-lt}
use Rattle.std.specs.Int.{div_ceil}
use Rattle.dsd_bits.specs.declared.blocks.BitOrder.{BitOrder}
use Rattle.dsd_bits.specs.declared.blocks.BitOrder.TheVariants.{LeastFirst, MostFirst}
use Rattle.dsd_bits.specs.Blocks.{block_byte, blocked, blocks_size, ordered, unblocked, unblocked_all}
use Rattle.dsd_bits.specs.Channels.{count_of}
use Rattle.dsd_bits.specs.Lacing.{frame_number, laced, laced_byte, unlaced, unlaced_all}
use Rattle.dsd_bits.specs.Packing.{IsTight, packed_byte, unpacked}
use Rattle.dsd_bits.proofs.BlockLemmas.{block_source, own_blocks, packed_at, place_below, unblocked_count, unblocked_is}
use Rattle.dsd_bits.proofs.PackingLemmas.{packed-unpacked, past_end}
use Rattle.interleave_core.proofs.FrameLaws.{frame_byte}
use Rattle.interleave_core.proofs.TakenLaws.{unlaced_count, unlaced_number}

-- ---- a list of which a part after a prefix was written
module _ (old prefix new : List ℕ) (at : ℕ) (prefix_is : prefix ≡ take at old) (prefix_long : length prefix ≡ at) where
  pub before : (p : ℕ) → p < at → slice_index (prefix ++ new) p ≡ slice_index old p
  before p h = get_or_append_left prefix new 0 p (omega arith) ∙ ap (λ xs. slice_index xs p) prefix_is ∙ get_or-take at old p 0 h

  pub after : (p q : ℕ) → p ≡ at + q → slice_index (prefix ++ new) p ≡ slice_index new q
  after p q e =
      let s : p - at ≡ q = omega arith in
      get_or-append_right prefix new at p 0 prefix_long (omega arith) ∙ ap (slice_index new) s

-- ---- one group more
module _ (old prefix new bytes rest : List ℕ) (n frames group count : ℕ) (prefix_is : prefix ≡ take (4096 * group * n) old) (prefix_long : length prefix ≡ 4096 * group * n) (rest_is : rest ≡ drop (4096 * group * n) bytes)
    (inner : 4096 * group < frames) (count_is : count ≡ min (frames - 4096 * group) 4096) where
  rest_at : (p q : ℕ) → p ≡ 4096 * group * n + q → slice_index rest q ≡ slice_index bytes p
  rest_at p q e = ap (λ xs. slice_index xs q) rest_is ∙ get_or-drop (4096 * group * n) bytes q 0 ∙ ap (slice_index bytes) (sym e)

  -- of blocks, that were zeros
  module _ (planes : List ℕ) (planes_is : planes ≡ drop (4096 * group * n) old) (size : length bytes ≡ frames * n)
      (written : (c k : ℕ) → c < n → k < count → slice_index new (4096 * c + k) ≡ slice_index rest (k * n + c))
      (others : (place : ℕ) → (n ≤ place / 4096) ⊎ (count ≤ place % 4096) → slice_index new place ≡ slice_index planes place)
      (done : (g c w : ℕ) → g < group → c < n → w < 4096 → slice_index old ((g * n + c) * 4096 + w) ≡ slice_index bytes ((4096 * g + w) * n + c))
      (left : (place : ℕ) → 4096 * group * n ≤ place → slice_index old place ≡ 0) where
    zero_at : (q : ℕ) → slice_index planes q ≡ 0
    zero_at q = ap (λ xs. slice_index xs q) planes_is ∙ get_or-drop (4096 * group * n) old q 0 ∙ left (4096 * group * n + q) (omega arith)

    group_byte : (c w : ℕ) → c < n → w < 4096 → slice_index new (4096 * c + w) ≡ slice_index bytes ((4096 * group + w) * n + c)
    group_byte c w in_list below = elim (cases_lt w count) [
      | inl low ↦ written c w in_list low ∙ rest_at _ (w * n + c) (omega arith)
      | inr high ↦
          let past : frames * n ≤ (4096 * group + w) * n = mul-le frames n (4096 * group + w) n (omega arith) (omega arith) in
          let r : count ≤ (4096 * c + w) % 4096 = omega arith in
          others (4096 * c + w) (inr r) ∙ zero_at (4096 * c + w) ∙ sym (get_or_past bytes ((4096 * group + w) * n + c) 0 (omega arith))
    ]

    pub more_blocks : (g c w : ℕ) → g < group + 1 → c < n → w < 4096 → slice_index (prefix ++ new) ((g * n + c) * 4096 + w) ≡ slice_index bytes ((4096 * g + w) * n + c)
    more_blocks g c w h in_list below = elim (cases_lt g group) [
      | inl low ↦ before old prefix new (4096 * group * n) prefix_is prefix_long _ (omega (arith, place_below group n g c w low in_list below)) ∙ done g c w low in_list below
      | inr high ↦
          let e : group ≡ g = omega arith in
          after old prefix new (4096 * group * n) prefix_is prefix_long _ (4096 * c + w) (ap (λ m. (m * n + c) * 4096 + w) (sym e) ∙ omega arith) ∙ group_byte c w in_list below ∙ ap (λ m. slice_index bytes ((4096 * m + w) * n + c)) e
    ]

    pub less_left : (place : ℕ) → 4096 * (group + 1) * n ≤ place → slice_index (prefix ++ new) place ≡ 0
    less_left place h =
        let q = place - 4096 * group * n in
        let row : n ≤ q / 4096 = omega arith in
        after old prefix new (4096 * group * n) prefix_is prefix_long place q (omega arith) ∙ others q (inl row) ∙ zero_at q

  -- of frames
  module _ (written : (c k : ℕ) → c < n → k < count → slice_index new (k * n + c) ≡ slice_index rest (4096 * c + k))
      (done : (c j : ℕ) → c < n → j < 4096 * group → j < frames → slice_index old (j * n + c) ≡ block_source bytes n c j) where
    pub more_frames : (c j : ℕ) → c < n → j < 4096 * (group + 1) → j < frames → slice_index (prefix ++ new) (j * n + c) ≡ block_source bytes n c j
    more_frames c j in_list h inside = elim (cases_lt j (4096 * group)) [
      | inl low ↦ before old prefix new (4096 * group * n) prefix_is prefix_long _ (omega (arith, mul-add-lt j n c (4096 * group) low in_list)) ∙ done c j in_list low inside
      | inr high ↦
          let k = j - 4096 * group in
          let e : 4096 * group + k ≡ j = omega arith in
          let q : j / 4096 ≡ group = omega arith in
          let r : j % 4096 ≡ k = omega arith in
          after old prefix new (4096 * group * n) prefix_is prefix_long _ (k * n + c) (ap (λ m. m * n + c) (sym e) ∙ omega arith) ∙ written c k in_list (omega arith) ∙ rest_at ((group * n + c) * 4096 + k) (4096 * c + k) (omega arith)
          ∙ sym (ap₂ (λ (g w : ℕ). slice_index bytes ((g * n + c) * 4096 + w)) q r)
    ]

-- ---- all of a segment

ordered_small : (order : BitOrder) (b : ℕ) → b < 256 → ordered order b < 256
ordered_small LeastFirst b h = omega (arith, bit_at-lt b 0, bit_at-lt b 1, bit_at-lt b 2, bit_at-lt b 3, bit_at-lt b 4, bit_at-lt b 5, bit_at-lt b 6, bit_at-lt b 7)
ordered_small MostFirst b h = h

module _ (order : BitOrder) (bytes to : List ℕ) (n count : ℕ) (some : 1 ≤ n) (whole : count % 8 ≡ 0) (short : count ≤ 2 ^ 36) (small : (k : ℕ) → slice_index bytes k < 256) where
  -- frames that were written as blocks
  pub blocks_are : length bytes ≡ count / 8 * n → length to ≡ blocks_size n count
      → ((g c w : ℕ) → g < div_ceil count 32768 → c < n → w < 4096 → slice_index to ((g * n + c) * 4096 + w) ≡ slice_index bytes ((4096 * g + w) * n + c))
      → map (ordered order) to ≡ blocked order (unlaced_all bytes n)
  blocks_are size long at =
      let all = unlaced_all bytes n in
      let number = unlaced_number bytes n count some whole size in
      let bits = unlaced_count bytes n count some whole size in
      let places : blocks_size (length all) (count_of all) ≡ blocks_size n count = ap₂ blocks_size number bits in
      let all_long = length-map-range_with_len (block_byte order all) 0 (blocks_size (length all) (count_of all)) in
      same_number_lists (map (ordered order) to) (blocked order all) (length-map to (ordered order) ∙ long ∙ sym places ∙ sym all_long) (λ p h.
      let below : p < blocks_size n count = omega (arith, length-map to (ordered order), long) in
      let k = p / 4096 in
      let row : k < div_ceil count 32768 * n = omega arith in
      let c = mod_below k n some in
      let g = div_below k n (div_ceil count 32768) some row in
      let place : (k / n * n + k % n) * 4096 + p % 4096 ≡ p = ap (λ m. m * 4096 + p % 4096) (div-add-mod' k n) ∙ omega arith in
      let j : 4096 * (k / n) + p % 4096 ≡ k / n * 4096 + p % 4096 = omega arith in
      get_or-map (ordered order) to p 0 0 (omega (arith, long))
      ∙ ap (ordered order) (ap (slice_index to) (sym place) ∙ at (k / n) (k % n) (p % 4096) g c (omega arith) ∙ ap (λ m. slice_index bytes (m * n + k % n)) j
      ∙ sym (frame_byte bytes n count some whole size short small (k % n) (k / n * 4096 + p % 4096))
      ∙ sym (ap (λ x. packed_byte x (k / n * 4096 + p % 4096)) (get_or-map-range_with_len (unlaced bytes n) 0 n (k % n) (k % n) [] c (omega arith)))
      ∙ sym (ap (λ m. packed_byte (get_or all (k % m) []) (k / m * 4096 + p % 4096)) number))
      ∙ sym (get_or-map-range_with_len (block_byte order all) 0 (blocks_size (length all) (count_of all)) p p 0 (omega (arith, places)) (omega arith)))

  -- a byte of a channel in blocks
  block_byte_again : (c j : ℕ) → j < count / 8 → packed_byte (unblocked order bytes n count c) j ≡ ordered order (block_source bytes n c j)
  block_byte_again c j below =
      let own = map (ordered order) (own_blocks bytes n c (div_ceil count 8)) in
      let size : length own ≡ div_ceil count 8 = length-map (own_blocks bytes n c (div_ceil count 8)) (ordered order) ∙ length-map-range_with_len (block_source bytes n c) 0 (div_ceil count 8) in
      let own_at : (i : ℕ) → i < div_ceil count 8 → slice_index own i ≡ ordered order (block_source bytes n c i) =
      λ i h. get_or-map (ordered order) (own_blocks bytes n c (div_ceil count 8)) i 0 0 (omega (arith, length-map-range_with_len (block_source bytes n c) 0 (div_ceil count 8))) ∙ ap (ordered order) (get_or-map-range_with_len (block_source bytes n c) 0 (div_ceil count 8) i i 0 h (omega arith)) in
      let tight : IsTight own count = record {
        enough = omega (arith, size);
        no_more = omega (arith, size);
        in_limit = short;
        spare = λ i past. past_end own i (omega (arith, size));
      } in
      let bounded : (i : ℕ) → slice_index own i < 256 = λ i. elim (cases_lt i (div_ceil count 8)) [
        | inl low ↦ rw (own_at i low) (ordered_small order (block_source bytes n c i) (small _))
        | inr high ↦ rw (get_or_past own i 0 (omega (arith, size))) (omega arith)
      ] in
      ap (λ x. packed_byte x j) (sym (unblocked_is order bytes n c count)) ∙ sym (packed_at (unpacked own count) j) ∙ sym (ap (λ bs. slice_index bs j) (packed-unpacked own count tight bounded)) ∙ own_at j (omega arith)

  -- blocks that were written as frames
  pub frames_are : length to ≡ count / 8 * n → ((c j : ℕ) → c < n → j < count / 8 → slice_index to (j * n + c) ≡ block_source bytes n c j)
      → map (ordered order) to ≡ laced (unblocked_all order bytes n count)
  frames_are long at =
      let all = unblocked_all order bytes n count in
      let number = length-map-range_with_len (unblocked order bytes n count) 0 n in
      let bits = unblocked_count order bytes n count some in
      let places : frame_number all * length all ≡ count / 8 * n = ap₂ (λ (k m : ℕ). k / 8 * m) bits number in
      let all_long = length-map-range_with_len (laced_byte all) 0 (frame_number all * length all) in
      same_number_lists (map (ordered order) to) (laced all) (length-map to (ordered order) ∙ long ∙ sym places ∙ sym all_long) (λ p h.
      let below : p < count / 8 * n = omega (arith, length-map to (ordered order), long) in
      let c = mod_below p n some in
      let j = div_below p n (count / 8) some below in
      get_or-map (ordered order) to p 0 0 (omega (arith, long))
      ∙ ap (ordered order) (ap (slice_index to) (sym (div-add-mod' p n)) ∙ at (p % n) (p / n) c j)
      ∙ sym (block_byte_again (p % n) (p / n) j)
      ∙ sym (ap (λ x. packed_byte x (p / n)) (get_or-map-range_with_len (unblocked order bytes n count) 0 n (p % n) (p % n) [] c (omega arith)))
      ∙ sym (ap (λ m. packed_byte (get_or all (p % m) []) (p / m)) number)
      ∙ sym (get_or-map-range_with_len (laced_byte all) 0 (frame_number all * length all) p p 0 (omega (arith, places)) (omega arith)))
