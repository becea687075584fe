-- Bits and bytes of lists that are appended.
use Rattle.std.proofs.Common.{◌≡◌, ℕ, ◌+◌, ◌-◌, ◌*◌, ◌/◌, ◌%◌, ◌<◌, ◌≤◌, Bool, false, cond, eqb, List, ◌++◌, map, length, slice_index, sym, ap, ◌∙◌, refl, arith, add-zero, mul_comm}
use Rattle.std.proofs.lemmas.List.{get_or_append_left, get_or-append-add, length-append}
use Rattle.std.proofs.lemmas.List.FromFn.{length-map-range_with_len}
use Rattle.std.proofs.lemmas.Nat.{div-mul-add, mul-add-lt}
use Rattle.std.proofs.Math.Nat.{add-mul}
use Rattle.std.specs.List.{range_with_len}
use Rattle.std.specs.Int.{bit_at, div_ceil}
use Rattle.dsd_bits.specs.declared.blocks.BitOrder.{BitOrder}
use Rattle.dsd_bits.specs.declared.blocks.BitOrder.TheVariants.{LeastFirst, MostFirst}
use Rattle.dsd_bits.specs.Blocks.{bit_number, block_bit, block_place, blocks_size, unblocked}
use Rattle.dsd_bits.specs.Lacing.{laced_bit, unlaced}
use Rattle.dsd_bits.specs.Packing.{bit_worth, packed_byte}
use Rattle.dsd_bits.proofs.BlockLemmas.{block_inside, map_range_join}
use Rattle.dsd_bits.proofs.LacingLemmas.{map_range_same}

-- ---- lists by a function of the place

pub join_by : {X : Type 0} (f fa fb : ℕ → X) (a b n : ℕ) → n ≡ a + b → ((i : ℕ) → i < a → f i ≡ fa i) → ((i : ℕ) → i < b → f (a + i) ≡ fb i) → map f (range_with_len 0 n) ≡ map fa (range_with_len 0 a) ++ map fb (range_with_len 0 b)
join_by f fa fb a b n e low high =
    ap (λ m. map f (range_with_len 0 m)) e
    ∙ sym (map_range_join f fb a 0 b (λ k h. let z : 0 + k ≡ k = omega arith in ap fb z ∙ sym (high k h)))
    ∙ ap (λ xs. xs ++ map fb (range_with_len 0 b)) (map_range_same a f fa low)

pub times_over : (x n : ℕ) → 1 ≤ n → x * n / n ≡ x
times_over x n some = ap (λ m. m / n) (sym (add-zero (x * n))) ∙ div-mul-add x n 0 some

-- ---- packed bits

worth_left : (xs ys : List Bool) (i w : ℕ) → i < length xs → bit_worth (xs ++ ys) i w ≡ bit_worth xs i w
worth_left xs ys i w h = ap (λ b. cond b w 0) (get_or_append_left xs ys false i h)

worth_right : (xs ys : List Bool) (i k w : ℕ) → k ≡ length xs + i → bit_worth (xs ++ ys) k w ≡ bit_worth ys i w
worth_right xs ys i k w e = ap (λ p. bit_worth (xs ++ ys) p w) e ∙ ap (λ b. cond b w 0) (get_or-append-add xs ys i false)

pub packed_left : (xs ys : List Bool) (j : ℕ) → 8 * j + 8 ≤ length xs → packed_byte (xs ++ ys) j ≡ packed_byte xs j
packed_left xs ys j h =
    omega (arith, worth_left xs ys (8 * j) 128 (omega arith), worth_left xs ys (8 * j + 1) 64 (omega arith), worth_left xs ys (8 * j + 2) 32 (omega arith), worth_left xs ys (8 * j + 3) 16 (omega arith), worth_left xs ys (8 * j + 4) 8 (omega arith), worth_left xs ys (8 * j + 5) 4 (omega arith), worth_left xs ys (8 * j + 6) 2 (omega arith), worth_left xs ys (8 * j + 7) 1 (omega arith))

pub packed_right : (xs ys : List Bool) (k j : ℕ) → length xs ≡ 8 * k → packed_byte (xs ++ ys) (k + j) ≡ packed_byte ys j
packed_right xs ys k j e =
    omega (arith, worth_right xs ys (8 * j) (8 * (k + j)) 128 (omega arith), worth_right xs ys (8 * j + 1) (8 * (k + j) + 1) 64 (omega arith), worth_right xs ys (8 * j + 2) (8 * (k + j) + 2) 32 (omega arith), worth_right xs ys (8 * j + 3) (8 * (k + j) + 3) 16 (omega arith), worth_right xs ys (8 * j + 4) (8 * (k + j) + 4) 8 (omega arith), worth_right xs ys (8 * j + 5) (8 * (k + j) + 5) 4 (omega arith), worth_right xs ys (8 * j + 6) (8 * (k + j) + 6) 2 (omega arith), worth_right xs ys (8 * j + 7) (8 * (k + j) + 7) 1 (omega arith))

-- ---- a byte of each channel in turn
module _ (first more : List ℕ) (n c a m : ℕ) (in_list : c < n) (whole : a % 8 ≡ 0) (size : length first ≡ a / 8 * n) (more_size : length more ≡ m * n) where
  first_frames : length first / n ≡ a / 8
  first_frames = ap (λ k. k / n) size ∙ times_over (a / 8) n (omega arith)

  more_frames : length more / n ≡ m
  more_frames = ap (λ k. k / n) more_size ∙ times_over m n (omega arith)

  all_frames : length (first ++ more) / n ≡ a / 8 + m
  all_frames =
      let long : length (first ++ more) ≡ (a / 8 + m) * n = omega (arith, length-append first more, size, more_size, add-mul (a / 8) m n) in
      ap (λ k. k / n) long ∙ times_over (a / 8 + m) n (omega arith)

  laced_left : (i : ℕ) → i < a → laced_bit (first ++ more) n c i ≡ laced_bit first n c i
  laced_left i h =
      let place : i / 8 * n + c < length first = omega (arith, mul-add-lt (i / 8) n c (a / 8) (omega arith) in_list, mul_comm n (a / 8), size) in
      ap (λ b. eqb (bit_at b (7 - i % 8)) 1) (get_or_append_left first more 0 (i / 8 * n + c) place)

  laced_right : (i : ℕ) → laced_bit (first ++ more) n c (a + i) ≡ laced_bit more n c i
  laced_right i =
      let q : (a + i) / 8 ≡ a / 8 + i / 8 = omega arith in
      let r : (a + i) % 8 ≡ i % 8 = omega arith in
      let place : (a + i) / 8 * n + c ≡ length first + (i / 8 * n + c) = ap (λ k. k * n + c) q ∙ omega (arith, add-mul (a / 8) (i / 8) n, size) in
      ap (λ p. eqb (bit_at (slice_index (first ++ more) p) (7 - (a + i) % 8)) 1) place
      ∙ ap (λ k. eqb (bit_at (slice_index (first ++ more) (length first + (i / 8 * n + c))) (7 - k)) 1) r
      ∙ ap (λ b. eqb (bit_at b (7 - i % 8)) 1) (get_or-append-add first more (i / 8 * n + c) 0)

  pub unlaced_bits : length (unlaced first n c) ≡ a
  unlaced_bits = length-map-range_with_len (laced_bit first n c) 0 (8 * (length first / n)) ∙ omega (arith, first_frames)

  pub unlaced_join : unlaced (first ++ more) n c ≡ unlaced first n c ++ unlaced more n c
  unlaced_join =
      let there : 8 * (length first / n) ≡ a = omega (arith, first_frames) in
      join_by (laced_bit (first ++ more) n c) (laced_bit first n c) (laced_bit more n c) (8 * (length first / n)) (8 * (length more / n)) (8 * (length (first ++ more) / n)) (omega (arith, first_frames, more_frames, all_frames))
      (λ i h. laced_left i (omega (arith, there)))
      (λ i h. ap (λ k. laced_bit (first ++ more) n c (k + i)) there ∙ laced_right i)

-- ---- blocks
module _ (order : BitOrder) (first more : List ℕ) (n c a : ℕ) (in_list : c < n) (whole : a % 32768 ≡ 0) (size : length first ≡ blocks_size n a) where
  block_left : (i : ℕ) → i < a → block_bit order (first ++ more) n c i ≡ block_bit order first n c i
  block_left i h =
      let inside = block_inside n c a (i / 32768) (i % 32768 / 8 + 1) (length first) in_list (omega arith) (omega arith) (omega (arith, size)) in
      let place : block_place n c i < length first = omega (arith, inside) in
      ap (λ b. eqb (bit_at b (bit_number order i)) 1) (get_or_append_left first more 0 (block_place n c i) place)

  same_number : (i : ℕ) → bit_number order (a + i) ≡ bit_number order i
  same_number i = let r : (a + i) % 8 ≡ i % 8 = omega arith in by order r
    where
      by : (o : BitOrder) → (a + i) % 8 ≡ i % 8 → bit_number o (a + i) ≡ bit_number o i
      by LeastFirst r = r
      by MostFirst r = ap (λ k. 7 - k) r

  block_right : (i : ℕ) → block_bit order (first ++ more) n c (a + i) ≡ block_bit order more n c i
  block_right i =
      let q : (a + i) / 32768 ≡ a / 32768 + i / 32768 = omega arith in
      let r : (a + i) % 32768 ≡ i % 32768 = omega arith in
      let groups : div_ceil a 32768 ≡ a / 32768 = omega arith in
      let long : length first ≡ a / 32768 * n * 4096 = size ∙ ap (λ g. g * n * 4096) groups in
      let place : block_place n c (a + i) ≡ length first + block_place n c i =
      ap (λ g. (g * n + c) * 4096 + (a + i) % 32768 / 8) q ∙ ap (λ k. ((a / 32768 + i / 32768) * n + c) * 4096 + k / 8) r ∙ omega (arith, add-mul (a / 32768) (i / 32768) n, long) in
      ap (λ p. eqb (bit_at (slice_index (first ++ more) p) (bit_number order (a + i))) 1) place
      ∙ ap (λ k. eqb (bit_at (slice_index (first ++ more) (length first + block_place n c i)) k) 1) (same_number i)
      ∙ ap (λ b. eqb (bit_at b (bit_number order i)) 1) (get_or-append-add first more (block_place n c i) 0)

  pub unblocked_bits : length (unblocked order first n a c) ≡ a
  unblocked_bits = length-map-range_with_len (block_bit order first n c) 0 a

  pub unblocked_join : (b : ℕ) → unblocked order (first ++ more) n (a + b) c ≡ unblocked order first n a c ++ unblocked order more n b c
  unblocked_join b =
      join_by (block_bit order (first ++ more) n c) (block_bit order first n c) (block_bit order more n c) a b (a + b) refl block_left (λ i h. block_right i)
