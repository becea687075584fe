-- Lemmas about sound bytes in blocks.
use Rattle.std.proofs.Common.{◌≡◌, ℕ, ◌+◌, ◌-◌, ◌*◌, ◌/◌, ◌%◌, ◌<◌, ◌≤◌, min, Bool, false, eqb, List, [], ◌++◌, replicate, map, length, get_or, slice_index, take, drop, get_or-take, get_or-drop, length-drop, length-append, append_assoc, refl, sym, ap, ◌∙◌, inl, inr, arith, mul_comm}
use Rattle.std.proofs.lemmas.List.FromFn.{length-map-range_with_len, get_or-map-range_with_len}
use Rattle.std.proofs.lemmas.List.{same_lists, get_or_past, get_or_read, get_or_append_left, get_or-append_right, get_or-replicate, length-map, length-replicate, length-take, ext_get_or, take_all}
use Rattle.std.proofs.lemmas.List.Elements.{All-map}
use Rattle.std.proofs.lemmas.Grind.{same_number_lists}
use Rattle.std.proofs.lemmas.Bool.{cases_lt}
use Rattle.std.proofs.lemmas.Nat.{div-mul-add, mod-mul-add, mul-add-lt, mod_below, div_below}
use Rattle.std.proofs.lemmas.Simd.{map-map}
use Rattle.std.proofs.Math.Seq.{take-append_seam, drop-append_seam}
use Rattle.std.specs.List.{range_with_len}
use Rattle.std.specs.Int.{bit_at, div_ceil}
use Rattle.dsd_bits.specs.declared.blocks.BitOrder.{BitOrder}
use Rattle.dsd_bits.specs.declared.blocks.BitOrder.TheVariants.{LeastFirst, MostFirst}
use Rattle.dsd_bits.specs.Packing.{unpacked, packed_byte, packed, bit_worth}
use Rattle.dsd_bits.specs.Blocks.{ordered, block_place, bit_number, block_bit, blocks_size, unblocked, unblocked_all, block_byte, blocked, AreBlocks}
use Rattle.dsd_bits.specs.Channels.{IsLevel, count_of}
use Rattle.dsd_bits.specs.Reversing.{reversed, IsReversed}
use Rattle.dsd_bits.proofs.LacingLemmas.{map_range_same}
use Rattle.dsd_bits.proofs.RoundTrip.{bit_of_byte}
use Rattle.dsd_bits.proofs.ShiftingLemmas.{written_back}
use Rattle.dsd_bits.proofs.ReversingLemmas.{is_reversed}

-- ---- a byte in the other order

reversed_bits : (b : ℕ) → IsReversed b (reversed b)
reversed_bits b = is_reversed b (reversed b) refl

-- the bit of a byte in an order, and the bit of the byte with the most significant bit first
bit_to_order : (order : BitOrder) (b i : ℕ) → bit_at (ordered order b) (bit_number order i) ≡ bit_at b (7 - i % 8)
bit_to_order MostFirst b i = refl
bit_to_order LeastFirst b i = (reversed_bits b).at (i % 8) (omega arith)

bit_from_order : (order : BitOrder) (b i : ℕ) → bit_at (ordered order b) (7 - i % 8) ≡ bit_at b (bit_number order i)
bit_from_order MostFirst b i = refl
bit_from_order LeastFirst b i =
    let back : 7 - (7 - i % 8) ≡ i % 8 = omega arith in
    (reversed_bits b).at (7 - i % 8) (omega arith) ∙ ap (bit_at b) back

-- ---- lists by a function of the place

pub map_range_join : {X : Type 0} (f g : ℕ → X) (n a m : ℕ) → ((k : ℕ) → k < m → g (a + k) ≡ f (n + k)) → map f (range_with_len 0 n) ++ map g (range_with_len a m) ≡ map f (range_with_len 0 (n + m))
map_range_join f g n a m same =
    let p = length-map-range_with_len f 0 n in
    let q = length-map-range_with_len g a m in
    let r = length-map-range_with_len f 0 (n + m) in
    let all = length-append (map f (range_with_len 0 n)) (map g (range_with_len a m)) in
    same_lists _ _ (omega (arith, p, q, r, all)) (λ k d h. elim (cases_lt k n) [
      | inl low ↦ get_or_append_left (map f (range_with_len 0 n)) (map g (range_with_len a m)) d k (omega (arith, p)) ∙ get_or-map-range_with_len f 0 n k k d low (omega arith) ∙ sym (get_or-map-range_with_len f 0 (n + m) k k d (omega arith) (omega arith))
      | inr high ↦
          let below : k - n < m = omega (arith, p, q, all) in
          let e : n + (k - n) ≡ k = omega arith in
          get_or-append_right (map f (range_with_len 0 n)) (map g (range_with_len a m)) n k d p high ∙ get_or-map-range_with_len g a m (k - n) (a + (k - n)) d below refl ∙ same (k - n) below ∙ ap f e ∙ sym (get_or-map-range_with_len f 0 (n + m) k k d (omega arith) (omega arith))
    ])

zero_at : (m k : ℕ) → slice_index (replicate m 0) k ≡ 0
zero_at m k = elim (cases_lt k m) [
  | inl low ↦ get_or-replicate m k 0 0 low
  | inr high ↦ get_or_past (replicate m 0) k 0 (omega (arith, length-replicate {A = ℕ} m 0))
]

-- a part of the bytes, as a list by place
pub part_is : (bytes : List ℕ) (a w : ℕ) → a + w ≤ length bytes → take w (drop a bytes) ≡ map (slice_index bytes) (range_with_len a w)
part_is bytes a w h =
    let p = length-map-range_with_len (slice_index bytes) a w in
    let q = length-take w (drop a bytes) in
    let r = length-drop a bytes in
    same_number_lists _ _ (omega (arith, p, q, r)) (λ k below.
    let low : k < w = omega (arith, q, r) in
    get_or-take w (drop a bytes) k 0 low ∙ get_or-drop a bytes k 0 ∙ sym (get_or-map-range_with_len (slice_index bytes) a w k (a + k) 0 low refl))

-- a part of the bytes, with zeros after their end
pub filled : (bytes part : List ℕ) (a w m : ℕ) → a ≤ length bytes → w ≡ min (length bytes - a) m → part ≡ take w (drop a bytes) → part ++ replicate (m - length part) 0 ≡ map (slice_index bytes) (range_with_len a m)
filled bytes part a w m h we pe =
    let size : length part ≡ w = ap length pe ∙ omega (arith, length-take w (drop a bytes), length-drop a bytes, we) in
    let p = length-map-range_with_len (slice_index bytes) a m in
    let z = length-replicate {A = ℕ} (m - length part) 0 in
    let all = length-append part (replicate (m - length part) 0) in
    same_number_lists _ _ (omega (arith, p, z, all, size, we)) (λ k below.
    let in_m : k < m = omega (arith, z, all, size, we) in
    elim (cases_lt k w) [
      | inl low ↦ get_or_append_left part (replicate (m - length part) 0) 0 k (omega (arith, size)) ∙ ap (λ xs. get_or xs k 0) pe ∙ get_or-take w (drop a bytes) k 0 low ∙ get_or-drop a bytes k 0
      | inr high ↦ get_or-append_right part (replicate (m - length part) 0) w k 0 size high ∙ zero_at (m - length part) (k - w) ∙ sym (get_or_past bytes (a + k) 0 (omega (arith, we)))
    ] ∙ sym (get_or-map-range_with_len (slice_index bytes) a m k (a + k) 0 in_m refl))

-- after the bytes that are there
pub grown : (out part all block : List ℕ) (size gap fill : ℕ) → all ≡ out ++ part → length all ≤ size → gap ≡ fill → part ++ replicate fill 0 ≡ block → take size all ++ replicate gap 0 ≡ out ++ block
grown out part all block size gap fill e h g f =
    rw (take_all size all h, e, g) (append_assoc out part (replicate fill 0) ∙ ap (λ (bs : List ℕ). out ++ bs) f)

-- how many bytes there are, and room for one block more
pub room_for_more : (out old : List ℕ) (f : ℕ → ℕ) (len old_len block blocks room : ℕ) → out ≡ old ++ map f (range_with_len 0 (4096 * block)) → len ≡ length out → old_len ≡ length old → block < blocks → old_len + 4096 * blocks ≤ room → len + 4096 ≤ room
room_for_more out old f len old_len block blocks room e n m h enough =
    let size : len ≡ old_len + 4096 * block = n ∙ ap length e ∙ length-append old (map f (range_with_len 0 (4096 * block))) ∙ omega (arith, m, length-map-range_with_len f 0 (4096 * block)) in
    omega (arith, size, h, enough)

-- bytes of which those after the first are changed
pub tail_changed : (all old block prefix back new rest : List ℕ) (f : ℕ → ℕ) (kept len : ℕ) → all ≡ old ++ block → kept ≡ length old → prefix ≡ take kept all → back ≡ drop kept all → new ≡ map f back → length all ≡ len
    → take len (prefix ++ new ++ rest) ≡ old ++ map f block
tail_changed all old block prefix back new rest f kept len e k fe be ne n =
    let prefix_is : prefix ≡ old = fe ∙ ap (λ (xs : List ℕ). take kept xs) e ∙ ap (λ m. take m (old ++ block)) k ∙ take-append_seam old block in
    let new_is : new ≡ map f block = ne ∙ ap (map f) (be ∙ ap (λ (xs : List ℕ). drop kept xs) e ∙ ap (λ m. drop m (old ++ block)) k ∙ drop-append_seam old block) in
    let both : prefix ++ new ≡ old ++ map f block = ap (λ (xs : List ℕ). xs ++ new) prefix_is ∙ ap (λ (xs : List ℕ). old ++ xs) new_is in
    let size : length (old ++ map f block) ≡ len = length-append old (map f block) ∙ ap (λ m. length old + m) (length-map block f) ∙ sym (length-append old block) ∙ sym (ap length e) ∙ n in
    ap (λ (xs : List ℕ). take len (xs ++ rest)) both ∙ written_back (old ++ map f block) rest len size

-- ---- places, on plain numbers

row_below : (groups n g c : ℕ) → g < groups → c < n → g * n + c < groups * n
row_below groups n g c hg hc =
    let rows = mul-add-lt g n c groups hg hc in
    rw (mul_comm groups n) rows

-- byte w of block c of a group, of n channels
pub place_below : (groups n g c w : ℕ) → g < groups → c < n → w < 4096 → (g * n + c) * 4096 + w < groups * n * 4096
place_below groups n g c w hg hc hw =
    let row = row_below groups n g c hg hc in
    omega (arith, row)

-- all of that block is in the bytes
pub block_inside : (channels c count g w size : ℕ) → c < channels → g < div_ceil count 32768 → w ≤ 4096 → blocks_size channels count ≤ size → (g * channels + c) * 4096 + w ≤ size
block_inside channels c count g w size hc hg hw enough =
    let row = row_below (div_ceil count 32768) channels g c hg hc in
    omega (arith, row, enough)

-- ---- reading

-- the bytes of one channel, as they are
abbrev pub block_source : List ℕ → ℕ → ℕ → ℕ → ℕ
block_source bytes channels c j = slice_index bytes ((j / 4096 * channels + c) * 4096 + j % 4096)

abbrev pub own_blocks : List ℕ → ℕ → ℕ → ℕ → List ℕ
own_blocks bytes channels c k = map (block_source bytes channels c) (range_with_len 0 k)

-- one block more
pub own_blocks_more : (bytes : List ℕ) (channels c group w : ℕ) → w ≤ 4096 → (group * channels + c) * 4096 + w ≤ length bytes
    → own_blocks bytes channels c (4096 * group) ++ take w (drop ((group * channels + c) * 4096) bytes) ≡ own_blocks bytes channels c (4096 * group + w)
own_blocks_more bytes channels c group w hw inside =
    let at = (group * channels + c) * 4096 in
    ap (λ xs. own_blocks bytes channels c (4096 * group) ++ xs) (part_is bytes at w inside) ∙ map_range_join (block_source bytes channels c) (slice_index bytes) (4096 * group) at w (λ k h.
    let q : (4096 * group + k) / 4096 ≡ group = omega arith in
    let r : (4096 * group + k) % 4096 ≡ k = omega arith in
    sym (ap (λ g. slice_index bytes ((g * channels + c) * 4096 + (4096 * group + k) % 4096)) q ∙ ap (λ m. slice_index bytes ((group * channels + c) * 4096 + m)) r))

pub unblocked_is : (order : BitOrder) (bytes : List ℕ) (channels c count : ℕ) → unpacked (map (ordered order) (own_blocks bytes channels c (div_ceil count 8))) count ≡ unblocked order bytes channels count c
unblocked_is order bytes channels c count =
    let f = block_source bytes channels c in
    map_range_same count _ _ (λ i h.
    let low : i / 8 < div_ceil count 8 = omega arith in
    let q : i / 8 / 4096 ≡ i / 32768 = omega arith in
    let r : i / 8 % 4096 ≡ i % 32768 / 8 = omega arith in
    let fused = ap (λ (bs : List ℕ). slice_index bs (i / 8)) (map-map (ordered order) f (range_with_len 0 (div_ceil count 8))) in
    let read = get_or-map-range_with_len (λ j. ordered order (f j)) 0 (div_ceil count 8) (i / 8) (i / 8) 0 low (omega arith) in
    let source : f (i / 8) ≡ slice_index bytes (block_place channels c i) =
    ap (λ g. slice_index bytes ((g * channels + c) * 4096 + i / 8 % 4096)) q ∙ ap (λ m. slice_index bytes ((i / 32768 * channels + c) * 4096 + m)) r in
    ap (λ b. eqb (bit_at b (7 - i % 8)) 1) (fused ∙ read ∙ ap (ordered order) source) ∙ ap (λ (b : ℕ). eqb b 1) (bit_from_order order (slice_index bytes (block_place channels c i)) i))

-- channels that were read are equally long
module _ (order : BitOrder) (bytes : List ℕ) (channels count : ℕ) (some : 1 ≤ channels) where
  channel_long : (c : ℕ) → length (unblocked order bytes channels count c) ≡ count
  channel_long c = length-map-range_with_len (block_bit order bytes channels c) 0 count

  pub unblocked_count : count_of (unblocked_all order bytes channels count) ≡ count
  unblocked_count = ap length (get_or-map-range_with_len (unblocked order bytes channels count) 0 channels 0 0 [] (omega arith) refl) ∙ channel_long 0

  pub unblocked_level : IsLevel (unblocked_all order bytes channels count)
  unblocked_level = record {
    same = All-map (λ (channel : List Bool). length channel ≡ count_of (unblocked_all order bytes channels count)) (unblocked order bytes channels count) (range_with_len 0 channels) (λ k d lt. channel_long (get_or (range_with_len 0 channels) k d) ∙ sym unblocked_count);
  }

-- ---- writing

-- past the end of a list its bytes are zero
past_worth : (xs : List Bool) (i w : ℕ) → length xs ≤ i → bit_worth xs i w ≡ 0
past_worth xs i w h = rw (get_or_past xs i false h) refl

pub packed_at : (xs : List Bool) (j : ℕ) → slice_index (packed xs) j ≡ packed_byte xs j
packed_at xs j =
    let size = length-map-range_with_len (packed_byte xs) 0 (div_ceil (length xs) 8) in
    elim (cases_lt j (div_ceil (length xs) 8)) [
      | inl low ↦ get_or-map-range_with_len (packed_byte xs) 0 (div_ceil (length xs) 8) j j 0 low (omega arith)
      | inr high ↦
          let e : length xs ≤ 8 * j = omega arith in
          get_or_past (packed xs) j 0 (omega (arith, size)) ∙ omega (arith, past_worth xs (8 * j) 128 e, past_worth xs (8 * j + 1) 64 (omega arith), past_worth xs (8 * j + 2) 32 (omega arith), past_worth xs (8 * j + 3) 16 (omega arith), past_worth xs (8 * j + 4) 8 (omega arith), past_worth xs (8 * j + 5) 4 (omega arith), past_worth xs (8 * j + 6) 2 (omega arith), past_worth xs (8 * j + 7) 1 (omega arith))
    ]

-- the groups of the first channel
pub groups_are : (channels : List (List Bool)) (x : List Bool) (n groups : ℕ) → 1 ≤ length channels → x ≡ get_or channels 0 x → n ≡ length x → groups ≡ div_ceil n 32768 → groups ≡ div_ceil (count_of channels) 32768
groups_are channels x n groups some x_is e g = g ∙ ap (λ m. div_ceil m 32768) (e ∙ ap length (get_or_read channels 0 x some x_is []))

-- a block: x is its channel, and bytes the packed form of that
module _ (channels : List (List Bool)) (level : IsLevel channels) (some : 1 ≤ length channels) (block : ℕ) (within : block < div_ceil (count_of channels) 32768 * length channels)
    (x : List Bool) (bytes : List ℕ) (x_is : x ≡ get_or channels (block % length channels) x) (bytes_are : bytes ≡ packed x) where
  in_list : block % length channels < length channels
  in_list = mod_below block (length channels) some

  group_below : block / length channels < div_ceil (count_of channels) 32768
  group_below = div_below block (length channels) (div_ceil (count_of channels) 32768) some within

  channel_is : x ≡ get_or channels (block % length channels) []
  channel_is = get_or_read channels (block % length channels) x in_list x_is []

  channel_length : length x ≡ count_of channels
  channel_length = ap length channel_is ∙ level.same (block % length channels) [] in_list

  bytes_length : length bytes ≡ div_ceil (length x) 8
  bytes_length = ap length bytes_are ∙ length-map-range_with_len (packed_byte x) 0 (div_ceil (length x) 8)

  pub group_in_bounds : 4096 * (block / length channels) ≤ length bytes
  group_in_bounds = let size : length bytes ≡ div_ceil (count_of channels) 8 = bytes_length ∙ ap (λ (m : ℕ). div_ceil m 8) channel_length in omega (arith, size, group_below)

  pub one_block : (order : BitOrder) → map (block_byte order channels) (range_with_len 0 (4096 * block)) ++ map (ordered order) (map (slice_index bytes) (range_with_len (4096 * (block / length channels)) 4096)) ≡ map (block_byte order channels) (range_with_len 0 (4096 * block + 4096))
  one_block order =
      let n = length channels in
      let g = block / n in
      let source : ℕ → ℕ = λ j. ordered order (slice_index bytes j) in
      ap (λ bs. map (block_byte order channels) (range_with_len 0 (4096 * block)) ++ bs) (map-map (ordered order) (slice_index bytes) (range_with_len (4096 * g) 4096))
      ∙ map_range_join (block_byte order channels) source (4096 * block) (4096 * g) 4096 (λ k h.
      let q : (4096 * block + k) / 4096 ≡ block = omega arith in
      let r : (4096 * block + k) % 4096 ≡ k = omega arith in
      let j : 4096 * g + k ≡ g * 4096 + k = omega arith in
      ap (ordered order)
      (ap (λ bs. slice_index bs (4096 * g + k)) bytes_are ∙ packed_at x (4096 * g + k) ∙ ap (λ y. packed_byte y (4096 * g + k)) channel_is ∙ ap (packed_byte (get_or channels (block % n) [])) j
      ∙ sym (ap (λ b. packed_byte (get_or channels (b % n) []) (b / n * 4096 + (4096 * block + k) % 4096)) q ∙ ap (λ m. packed_byte (get_or channels (block % n) []) (g * 4096 + m)) r)))

module _ (order : BitOrder) (channels : List (List Bool)) (some : 1 ≤ length channels) where
  length-blocked : length (blocked order channels) ≡ blocks_size (length channels) (count_of channels)
  length-blocked = length-map-range_with_len (block_byte order channels) 0 _

  byte_at : (c i : ℕ) → c < length channels → i < 32768 * div_ceil (count_of channels) 32768 → slice_index (blocked order channels) (block_place (length channels) c i) ≡ ordered order (packed_byte (get_or channels c []) (i / 8))
  byte_at c i in_list below =
      let n = length channels in
      let group : i / 32768 < div_ceil (count_of channels) 32768 = omega arith in
      let within : i % 32768 / 8 < 4096 = omega arith in
      let place = place_below (div_ceil (count_of channels) 32768) n (i / 32768) c (i % 32768 / 8) group in_list within in
      let block : block_place n c i / 4096 ≡ i / 32768 * n + c = omega arith in
      let rest : block_place n c i % 4096 ≡ i % 32768 / 8 = omega arith in
      let j : i / 32768 * 4096 + i % 32768 / 8 ≡ i / 8 = omega arith in
      get_or-map-range_with_len (block_byte order channels) 0 (blocks_size n (count_of channels)) (block_place n c i) (block_place n c i) 0 place (omega arith)
      ∙ ap (λ b. ordered order (packed_byte (get_or channels (b % n) []) (b / n * 4096 + block_place n c i % 4096))) block
      ∙ ap (λ w. ordered order (packed_byte (get_or channels ((i / 32768 * n + c) % n) []) ((i / 32768 * n + c) / n * 4096 + w))) rest
      ∙ ap (λ p. ordered order (packed_byte (get_or channels p []) ((i / 32768 * n + c) / n * 4096 + i % 32768 / 8))) (mod-mul-add (i / 32768) n c in_list)
      ∙ ap (λ g. ordered order (packed_byte (get_or channels c []) (g * 4096 + i % 32768 / 8))) (div-mul-add (i / 32768) n c in_list)
      ∙ ap (λ k. ordered order (packed_byte (get_or channels c []) k)) j

  pub AreBlocks-blocked : AreBlocks order channels (blocked order channels)
  AreBlocks-blocked = record {
    size = length-blocked;
    at = λ c i in_list below. ap (λ b. eqb (bit_at b (bit_number order i)) 1) (byte_at c i in_list below) ∙ ap (λ (b : ℕ). eqb b 1) (bit_to_order order (packed_byte (get_or channels c []) (i / 8)) i) ∙ bit_of_byte (get_or channels c []) i;
  }

  -- a bit is the same if more bytes follow
  pub bit_before : (more : List ℕ) (c i : ℕ) → c < length channels → i < 32768 * div_ceil (count_of channels) 32768 → block_bit order (blocked order channels ++ more) (length channels) c i ≡ get_or (get_or channels c []) i false
  bit_before more c i in_list below =
      let n = length channels in
      let group : i / 32768 < div_ceil (count_of channels) 32768 = omega arith in
      let within : i % 32768 / 8 < 4096 = omega arith in
      let place = place_below (div_ceil (count_of channels) 32768) n (i / 32768) c (i % 32768 / 8) group in_list within in
      ap (λ b. eqb (bit_at b (bit_number order i)) 1) (get_or_append_left (blocked order channels) more 0 (block_place n c i) (rw length-blocked place)) ∙ AreBlocks-blocked.at c i in_list below

-- sound bytes whose bits are those of the channels are read as these channels
pub unblocked_all-blocks : (order : BitOrder) (channels : List (List Bool)) (bytes : List ℕ) → IsLevel channels
    → ((c i : ℕ) → c < length channels → i < 32768 * div_ceil (count_of channels) 32768 → block_bit order bytes (length channels) c i ≡ get_or (get_or channels c []) i false)
    → unblocked_all order bytes (length channels) (count_of channels) ≡ channels
unblocked_all-blocks order channels bytes level at =
    let n = length channels in
    let count = count_of channels in
    let size = length-map-range_with_len (unblocked order bytes n count) 0 n in
    ext_get_or [] _ _ size (λ c h.
    let in_list : c < n = omega (arith, size) in
    let own = length-map-range_with_len (block_bit order bytes n c) 0 count in
    get_or-map-range_with_len (unblocked order bytes n count) 0 n c c [] in_list (omega arith) ∙ ext_get_or false _ _ (own ∙ sym (level.same c [] in_list)) (λ i below.
    let low : i < count = omega (arith, own) in
    get_or-map-range_with_len (block_bit order bytes n c) 0 count i i false low (omega arith) ∙ at c i in_list (omega arith)))
