-- Whole groups of sound, and what follows them.
use Rattle.std.proofs.Common.{◌≡◌, ℕ, zero, suc, ◌+◌, ◌*◌, ◌/◌, ◌%◌, ◌<◌, ◌≤◌, Bool, List, [], ◌++◌, map, length, get_or, sym, ap, ap₂, ◌∙◌, refl, arith}
use Rattle.std.proofs.lemmas.List.{length-append}
use Rattle.std.proofs.lemmas.List.FromFn.{length-map-range_with_len, get_or-map-range_with_len}
use Rattle.std.proofs.lemmas.Nat.{div_below, mod_below}
use Rattle.std.proofs.Math.Nat.{add-mul, mul-add-div_right, mul-add-mod_self_right}
use Rattle.std.specs.List.{range_with_len}
use Rattle.std.specs.Int.{div_ceil}
use Rattle.dsd_bits.specs.declared.blocks.BitOrder.{BitOrder}
use Rattle.dsd_bits.specs.declared.interleaving.Interleaving.{Interleaving}
use Rattle.dsd_bits.specs.declared.interleaving.Interleaving.TheVariants.{Bytes, Blocks}
use Rattle.dsd_bits.specs.Blocks.{block_byte, blocked, blocks_size, ordered, unblocked}
use Rattle.dsd_bits.specs.Channels.{count_of}
use Rattle.dsd_bits.specs.Lacing.{frame_number, laced, laced_byte, unlaced}
use Rattle.dsd_bits.specs.Packing.{packed_byte}
use Rattle.dsd_bits.specs.Sounds.{sound_channels, sound_size}
use Rattle.interleave_core.specs.Reinterleaving.{GroupsJoin, laced_in, reinterleaved}
use Rattle.interleave_core.proofs.PlaceLaws.{join_by, packed_left, packed_right, unblocked_bits, unblocked_join, unlaced_bits, unlaced_join}

-- channels, each the first ones' bits and then the others'
pub record Appended (all first more : List (List Bool)) (n a : ℕ) : Type 0 where
  pub all_long : length all ≡ n
  pub first_long : length first ≡ n
  pub more_long : length more ≡ n
  pub each : (c : ℕ) → c < n → get_or all c [] ≡ get_or first c [] ++ get_or more c []
  pub bits : (c : ℕ) → c < n → length (get_or first c []) ≡ a

-- ---- channels taken from sound bytes

by_channel : (f fa fb : ℕ → List Bool) (n a : ℕ) → ((c : ℕ) → c < n → f c ≡ fa c ++ fb c) → ((c : ℕ) → c < n → length (fa c) ≡ a) → Appended (map f (range_with_len 0 n)) (map fa (range_with_len 0 n)) (map fb (range_with_len 0 n)) n a
by_channel f fa fb n a each bits =
    let at : (g : ℕ → List Bool) (c : ℕ) → c < n → get_or (map g (range_with_len 0 n)) c [] ≡ g c = λ g c h. get_or-map-range_with_len g 0 n c c [] h (omega arith) in
    record {
      all_long = length-map-range_with_len f 0 n;
      first_long = length-map-range_with_len fa 0 n;
      more_long = length-map-range_with_len fb 0 n;
      each = λ c h. at f c h ∙ each c h ∙ sym (ap₂ (λ (x y : List Bool). x ++ y) (at fa c h) (at fb c h));
      bits = λ c h. ap length (at fa c h) ∙ bits c h;
    }

-- of whole groups and what follows them
pub taken : (from : Interleaving) (n a b : ℕ) (first more : List ℕ) → a % 32768 ≡ 0 → length first ≡ sound_size from n a → length more ≡ sound_size from n b
    → Appended (sound_channels from n (a + b) (first ++ more)) (sound_channels from n a first) (sound_channels from n b more) n a
taken Bytes n a b first more whole size more_size =
    by_channel (unlaced (first ++ more) n) (unlaced first n) (unlaced more n) n a
    (λ c h. unlaced_join first more n c a (b / 8) h (omega arith) size more_size)
    (λ c h. unlaced_bits first more n c a (b / 8) h (omega arith) size more_size)
taken (Blocks order) n a b first more whole size more_size =
    by_channel (unblocked order (first ++ more) n (a + b)) (unblocked order first n a) (unblocked order more n b) n a
    (λ c h. unblocked_join order first more n c a h whole size b)
    (λ c h. unblocked_bits order first more n c a h whole size)

-- ---- sound bytes of channels
module _ (all first more : List (List Bool)) (n a : ℕ) (some : 1 ≤ n) (whole : a % 32768 ≡ 0) (h : Appended all first more n a) where
  count_first : count_of first ≡ a
  count_first = h.bits 0 some

  count_all : count_of all ≡ a + count_of more
  count_all = ap length (h.each 0 some) ∙ length-append (get_or first 0 []) (get_or more 0 []) ∙ ap (λ k. k + count_of more) count_first

  -- the packed bytes of a channel
  byte_left : (c j : ℕ) → c < n → j < a / 8 → packed_byte (get_or all c []) j ≡ packed_byte (get_or first c []) j
  byte_left c j low below =
      ap (λ x. packed_byte x j) (h.each c low) ∙ packed_left (get_or first c []) (get_or more c []) j (omega (arith, h.bits c low))

  byte_right : (c j : ℕ) → c < n → packed_byte (get_or all c []) (a / 8 + j) ≡ packed_byte (get_or more c []) j
  byte_right c j low =
      ap (λ x. packed_byte x (a / 8 + j)) (h.each c low) ∙ packed_right (get_or first c []) (get_or more c []) (a / 8) j (omega (arith, h.bits c low))

  -- ---- a byte of each channel in turn

  laced_left : (p : ℕ) → p < a / 8 * n → laced_byte all p ≡ laced_byte first p
  laced_left p below =
      ap (λ m. packed_byte (get_or all (p % m) []) (p / m)) h.all_long
      ∙ byte_left (p % n) (p / n) (mod_below p n some) (div_below p n (a / 8) some below)
      ∙ sym (ap (λ m. packed_byte (get_or first (p % m) []) (p / m)) h.first_long)

  laced_right : (p : ℕ) → laced_byte all (a / 8 * n + p) ≡ laced_byte more p
  laced_right p =
      ap (λ m. packed_byte (get_or all ((a / 8 * n + p) % m) []) ((a / 8 * n + p) / m)) h.all_long
      ∙ ap (λ c. packed_byte (get_or all c []) ((a / 8 * n + p) / n)) (mul-add-mod_self_right (a / 8) n p)
      ∙ ap (packed_byte (get_or all (p % n) [])) (mul-add-div_right some (a / 8) p)
      ∙ byte_right (p % n) (p / n) (mod_below p n some)
      ∙ sym (ap (λ m. packed_byte (get_or more (p % m) []) (p / m)) h.more_long)

  laced_join : laced all ≡ laced first ++ laced more
  laced_join =
      let one : frame_number first * length first ≡ a / 8 * n = ap₂ (λ (k m : ℕ). k / 8 * m) count_first h.first_long in
      let two : frame_number more * length more ≡ frame_number more * n = ap (λ m. frame_number more * m) h.more_long in
      let frames : (a + count_of more) / 8 ≡ a / 8 + frame_number more = omega arith in
      let both : frame_number all * length all ≡ frame_number first * length first + frame_number more * length more =
      ap₂ (λ (k m : ℕ). k / 8 * m) count_all h.all_long ∙ ap (λ k. k * n) frames ∙ add-mul (a / 8) (frame_number more) n ∙ sym (ap₂ (λ (k m : ℕ). k + m) one two) in
      join_by (laced_byte all) (laced_byte first) (laced_byte more) (frame_number first * length first) (frame_number more * length more) (frame_number all * length all) both
      (λ p below. laced_left p (omega (arith, one)))
      (λ p below. ap (λ k. laced_byte all (k + p)) one ∙ laced_right p)

  -- ---- blocks
  module _ (order : BitOrder) where
    -- byte w of block k
    place_byte : List (List Bool) → ℕ → ℕ → ℕ → ℕ
    place_byte channels m k w = ordered order (packed_byte (get_or channels (k % m) []) (k / m * 4096 + w))

    block_left : (p : ℕ) → p < a / 32768 * n * 4096 → block_byte order all p ≡ block_byte order first p
    unfolding place_byte
    block_left p below =
        let k = p / 4096 in
        let low : k < a / 32768 * n = omega arith in
        let group : k / n < a / 32768 = div_below k n (a / 32768) some low in
        ap (λ m. place_byte all m k (p % 4096)) h.all_long
        ∙ ap (ordered order) (byte_left (k % n) (k / n * 4096 + p % 4096) (mod_below k n some) (omega arith))
        ∙ sym (ap (λ m. place_byte first m k (p % 4096)) h.first_long)

    block_right : (p : ℕ) → block_byte order all (a / 32768 * n * 4096 + p) ≡ block_byte order more p
    unfolding place_byte
    block_right p =
        let k = p / 4096 in
        let q : (a / 32768 * n * 4096 + p) / 4096 ≡ a / 32768 * n + k = omega arith in
        let r : (a / 32768 * n * 4096 + p) % 4096 ≡ p % 4096 = omega arith in
        let j : (a / 32768 + k / n) * 4096 + p % 4096 ≡ a / 8 + (k / n * 4096 + p % 4096) = omega arith in
        ap₂ (λ (b w : ℕ). place_byte all (length all) b w) q r
        ∙ ap (λ m. place_byte all m (a / 32768 * n + k) (p % 4096)) h.all_long
        ∙ ap (λ c. ordered order (packed_byte (get_or all c []) ((a / 32768 * n + k) / n * 4096 + p % 4096))) (mul-add-mod_self_right (a / 32768) n k)
        ∙ ap (λ g. ordered order (packed_byte (get_or all (k % n) []) (g * 4096 + p % 4096))) (mul-add-div_right some (a / 32768) k)
        ∙ ap (λ i. ordered order (packed_byte (get_or all (k % n) []) i)) j
        ∙ ap (ordered order) (byte_right (k % n) (k / n * 4096 + p % 4096) (mod_below k n some))
        ∙ sym (ap (λ m. place_byte more m k (p % 4096)) h.more_long)

    blocked_join : blocked order all ≡ blocked order first ++ blocked order more
    blocked_join =
        let size = λ (m k : ℕ). div_ceil k 32768 * m * 4096 in
        let whole_groups : div_ceil a 32768 ≡ a / 32768 = omega arith in
        let one : blocks_size (length first) (count_of first) ≡ a / 32768 * n * 4096 = ap₂ size h.first_long count_first ∙ ap (λ g. g * n * 4096) whole_groups in
        let two : blocks_size (length more) (count_of more) ≡ blocks_size n (count_of more) = ap (λ m. blocks_size m (count_of more)) h.more_long in
        let groups : div_ceil (a + count_of more) 32768 ≡ a / 32768 + div_ceil (count_of more) 32768 = omega arith in
        let sum : (a / 32768 + div_ceil (count_of more) 32768) * n * 4096 ≡ a / 32768 * n * 4096 + blocks_size n (count_of more) = omega (arith, add-mul (a / 32768) (div_ceil (count_of more) 32768) n) in
        let both : blocks_size (length all) (count_of all) ≡ blocks_size (length first) (count_of first) + blocks_size (length more) (count_of more) =
        ap₂ size h.all_long count_all ∙ ap (λ g. g * n * 4096) groups ∙ sum ∙ sym (ap₂ (λ (k m : ℕ). k + m) one two) in
        join_by (block_byte order all) (block_byte order first) (block_byte order more) (blocks_size (length first) (count_of first)) (blocks_size (length more) (count_of more)) (blocks_size (length all) (count_of all)) both
        (λ p below. block_left p (omega (arith, one)))
        (λ p below. ap (λ k. block_byte order all (k + p)) one ∙ block_right p)

pub written : (to : Interleaving) (all first more : List (List Bool)) (n a : ℕ) → 1 ≤ n → a % 32768 ≡ 0 → Appended all first more n a → laced_in to all ≡ laced_in to first ++ laced_in to more
written Bytes all first more n a some whole h = laced_join all first more n a some whole h
written (Blocks order) all first more n a some whole h = blocked_join all first more n a some whole h order

-- ---- no channels

none_taken : (from : Interleaving) (count : ℕ) (bytes : List ℕ) → sound_channels from 0 count bytes ≡ []
none_taken Bytes count bytes = refl
none_taken (Blocks order) count bytes = refl

none_written : (to : Interleaving) → laced_in to [] ≡ []
none_written Bytes = refl
none_written (Blocks order) = refl

no_bytes : (from to : Interleaving) (count : ℕ) (bytes : List ℕ) → reinterleaved from to 0 count bytes ≡ []
no_bytes from to count bytes = ap (laced_in to) (none_taken from count bytes) ∙ none_written to

-- ---- the law

pub groups_join : GroupsJoin
groups_join from to zero a b first more whole size more_size =
    no_bytes from to (a + b) (first ++ more) ∙ sym (ap₂ (λ (x y : List ℕ). x ++ y) (no_bytes from to a first) (no_bytes from to b more))
groups_join from to (suc k) a b first more whole size more_size =
    written to _ _ _ (suc k) a (omega arith) whole (taken from (suc k) a b first more whole size more_size)
