-- What DoP samples hold, of channels too.
use Rattle.std.proofs.Common.{◌≡◌, ℕ, zero, suc, ◌+◌, ◌-◌, ◌*◌, ◌/◌, ◌%◌, ◌<◌, ◌≤◌, inl, inr, Bool, false, List, [], ◌∷◌, ◌++◌, None, get_or, length, map, slice_index, cond, eqb, refl, sym, ap, ◌∙◌, arith}
use Rattle.std.specs.Int.{bit_at, div_ceil}
use Rattle.std.specs.List.{flat_map, range_with_len}
use Rattle.std.proofs.Math.Nat.{add-mul, mul-div_cancel}
use Rattle.std.proofs.lemmas.Bool.{cases_eq}
use Rattle.std.proofs.lemmas.List.{get_or-append-add, get_or-map, get_or_append_left, same_lists}
use Rattle.std.proofs.lemmas.List.FromFn.{get_or-map-range_with_len, length-map-range_with_len}
use Rattle.std.proofs.lemmas.Nat.{div-mul-add, mul-le}
use Rattle.dsd_bits.specs.Channels.{IsLevel, count_of}
use Rattle.dsd_bits.specs.Lacing.{laced, laced_bit, unlaced, unlaced_all}
use Rattle.dsd_bits.specs.Packing.{packed_bit}
use Rattle.dsd_bits.proofs.LacingLemmas.{unlaced_all-laced}
use Rattle.native_core.specs.Native.{all_filled, dop_sample, dop_samples, filled, marker, missing, silence}
use Rattle.native_core.proofs.ChannelLaws.{Has, filled_has, has_count, has_level, laced_long}
use Rattle.native_core.proofs.DopLaws.{dop_long}
use Rattle.dop_core.specs.Reading.{broken_from, dop_byte, dop_bytes, dop_channel, dop_channels, phase}
use Rattle.dop_core.proofs.MarkerLaws.{none_left, passed}

-- a byte of lists of three, one after the other
triple : (f : ℕ → List ℕ) → ((x : ℕ) → length (f x) ≡ 3) → (m a k r : ℕ) → k < m → r < 3 → slice_index (flat_map f (range_with_len a m)) (3 * k + r) ≡ slice_index (f (a + k)) r
triple f long zero a k r h low = absurd (omega (arith, h))
triple f long (suc m) a zero r h low =
    let place : 3 * 0 + r ≡ r = omega arith in
    let here : a + 0 ≡ a = omega arith in
    ap (slice_index (f a ++ flat_map f (range_with_len (a + 1) m))) place ∙ get_or_append_left (f a) (flat_map f (range_with_len (a + 1) m)) 0 r (omega (arith, long a, low)) ∙ ap (λ x. slice_index (f x) r) (sym here)
triple f long (suc m) a (suc k) r h low =
    let rest = flat_map f (range_with_len (a + 1) m) in
    let place : 3 * suc k + r ≡ length (f a) + (3 * k + r) = omega (arith, long a) in
    let here : a + 1 + k ≡ a + suc k = omega arith in
    ap (slice_index (f a ++ rest)) place ∙ get_or-append-add (f a) rest (3 * k + r) 0 ∙ triple f long m (a + 1) k r (omega (arith, h)) low ∙ ap (λ x. slice_index (f x) r) here

module _ (n : ℕ) (bytes tail : List ℕ) (some : 1 ≤ n) where
  abbrev sound : List ℕ
  sound = dop_samples n bytes ++ tail

  -- byte r of sample k
  sample_at : (k r : ℕ) → k < length bytes / 2 → r < 3 → slice_index sound (3 * k + r) ≡ slice_index (dop_sample n bytes k) r
  sample_at k r h low =
      get_or_append_left (dop_samples n bytes) tail 0 (3 * k + r) (omega (arith, h, low, dop_long n bytes))
      ∙ triple (dop_sample n bytes) (λ x. refl) (length bytes / 2) 0 k r h low
      ∙ ap (λ x. slice_index (dop_sample n bytes x) r) (let same : 0 + k ≡ k = omega arith in same)

  -- ---- the markers
  unbroken : (left k : ℕ) → k + left ≡ length bytes / 2 → broken_from n 0 sound k left ≡ None
  unbroken zero k all = none_left n 0 sound k zero refl
  unbroken (suc left) k all =
      let first : 0 + k / n ≡ k / n = omega arith in
      passed n 0 sound k left (sample_at k 2 (omega (arith, all)) (omega arith) ∙ ap marker (sym first)) ∙ unbroken left (k + 1) (omega (arith, all))

  first_marker : 1 ≤ length bytes / 2 → slice_index sound 2 ≡ 5
  first_marker h =
      let at : 3 * 0 + 2 ≡ 2 = omega arith in
      let none : 0 * n + 0 ≡ 0 = omega arith in
      let frame : 0 / n ≡ 0 = ap (λ m. m / n) (sym none) ∙ div-mul-add 0 n 0 some in
      ap (slice_index sound) (sym at) ∙ sample_at 0 2 (omega (arith, h)) (omega arith) ∙ ap marker frame

  pub all_marked : (samples : ℕ) → samples ≡ length bytes / 2 → broken_from n (phase sound) sound 0 samples ≡ None
  all_marked zero all = none_left n (phase sound) sound 0 zero refl
  all_marked (suc samples) all =
      let five : phase sound ≡ 0 = ap (λ (m : ℕ). cond (eqb m 250) 1 0) (first_marker (omega (arith, all))) in
      ap (λ m. broken_from n m sound 0 (suc samples)) five ∙ unbroken (suc samples) 0 (omega (arith, all))

  -- ---- the bits
  module _ (frames c : ℕ) (size : length bytes ≡ 2 * frames * n) (in_frame : c < n) where
    byte_at : (p : ℕ) → p < 2 * frames → dop_byte n sound c p ≡ slice_index bytes (p * n + c)
    byte_at p low =
        let q = p / 2 in
        let k = q * n + c in
        let fits : (q + 1) * n ≤ frames * n = mul-le (q + 1) n frames n (omega (arith, low)) (omega arith) in
        let inside : k < length bytes / 2 = omega (arith, fits, size, in_frame, add-mul q 1 n) in
        let frame : k / n ≡ q = div-mul-add q n c in_frame in
        let twice : k + k / n * n ≡ q * n + c + q * n = ap (λ m. k + m * n) frame in
        elim (cases_eq (p % 2) 0) [
          | inl even ↦
              let r : 1 - p % 2 ≡ 1 = omega (arith, even) in
              let two : p ≡ q + q = omega (arith, even) in
              let at : k + k / n * n ≡ p * n + c = twice ∙ omega (arith, add-mul q q n, ap (λ m. m * n) two) in
              ap (λ m. slice_index sound (3 * k + m)) r ∙ sample_at k 1 inside (omega arith) ∙ ap (slice_index bytes) at
          | inr odd ↦
              let r : 1 - p % 2 ≡ 0 = omega (arith, odd) in
              let two : p ≡ q + q + 1 = omega (arith, odd) in
              let at : k + k / n * n + n ≡ p * n + c = ap (λ m. m + n) twice ∙ omega (arith, add-mul q q n, add-mul (q + q) 1 n, ap (λ m. m * n) two) in
              ap (λ m. slice_index sound (3 * k + m)) r ∙ sample_at k 0 inside (omega arith) ∙ ap (slice_index bytes) at
        ]

    pub bit_at_place : (count i : ℕ) → count ≤ 16 * frames → i < count → packed_bit (dop_bytes n sound c (div_ceil count 8)) i ≡ eqb (bit_at (slice_index bytes (i / 8 * n + c)) (7 - i % 8)) 1
    bit_at_place count i fits low =
        let inside : i / 8 < div_ceil count 8 = omega (arith, low) in
        ap (λ m. eqb (bit_at m (7 - i % 8)) 1)
        (get_or-map-range_with_len (dop_byte n sound c) 0 (div_ceil count 8) (i / 8) (i / 8) 0 inside (omega arith) ∙ byte_at (i / 8) (omega (arith, low, fits)))

-- an element doesn't depend on what stands past the end
get_or-same : {X : Type 0} (xs : List X) (i : ℕ) (d e : X) → i < length xs → get_or xs i d ≡ get_or xs i e
get_or-same [] i d e low = absurd (omega (arith, low))
get_or-same (x ∷ xs) zero d e low = refl
get_or-same (x ∷ xs) (suc i) d e low = get_or-same xs i d e (omega (arith, low))

-- ---- the samples of channels
module _ (channels : List (List Bool)) (some : 1 ≤ length channels) (level : IsLevel channels) where
  abbrev n : ℕ
  n = length channels

  abbrev count : ℕ
  count = count_of channels

  abbrev frames : ℕ
  frames = div_ceil count 16

  -- the channels with silence
  abbrev full : List (List Bool)
  full = all_filled 16 channels

  has : Has channels n count
  has = record { number = refl; bits = λ c low. level.same c [] low }

  full_has : Has full n (frames * 16)
  full_has = filled_has 16 channels n count (inr refl) has

  pub laced_size : length (laced full) ≡ 2 * frames * n
  laced_size =
      let eighth : frames * 16 / 8 ≡ 2 * frames = omega arith in
      laced_long full n (frames * 16) some full_has ∙ ap (λ m. m * n) eighth

  full_again : unlaced_all (laced full) n ≡ full
  full_again =
      let whole : count_of full % 8 ≡ 0 = omega (arith, has_count full n (frames * 16) some full_has) in
      ap (unlaced_all (laced full)) (sym full_has.number) ∙ unlaced_all-laced full (has_level full n (frames * 16) some full_has) whole (omega (arith, full_has.number, some))

  module _ (tail : List ℕ) (c : ℕ) (in_frame : c < n) where
    abbrev channel : List Bool
    channel = get_or channels c []

    -- the channel with silence is what the bytes hold
    held : unlaced (laced full) n c ≡ filled 16 channel
    held =
        sym (get_or-map-range_with_len (unlaced (laced full) n) 0 n c c [] in_frame (omega arith)) ∙ ap (λ (xs : List (List Bool)). get_or xs c []) full_again ∙ get_or-map (filled 16) channels c [] [] in_frame

    bit_held : (i : ℕ) → i < count → laced_bit (laced full) n c i ≡ get_or channel i false
    bit_held i low =
        let bits = 8 * (length (laced full) / n) in
        let per : length (laced full) / n ≡ 2 * frames = ap (λ m. m / n) laced_size ∙ mul-div_cancel (2 * frames) some in
        let inside : i < bits = omega (arith, low, per) in
        sym (get_or-map-range_with_len (laced_bit (laced full) n c) 0 bits i i false inside (omega arith))
        ∙ ap (λ (xs : List Bool). get_or xs i false) held
        ∙ get_or_append_left channel (silence (length channel) (missing 16 (length channel))) false i (omega (arith, low, has.bits c in_frame))

    pub channel_again : dop_channel n (dop_samples n (laced full) ++ tail) count c ≡ channel
    channel_again =
        let sound = dop_samples n (laced full) ++ tail in
        let f : ℕ → Bool = packed_bit (dop_bytes n sound c (div_ceil count 8)) in
        let long : length (map f (range_with_len 0 count)) ≡ count = length-map-range_with_len f 0 count in
        same_lists _ _ (long ∙ sym (has.bits c in_frame)) (λ i d low.
        let below : i < count = omega (arith, low, long) in
        get_or-map-range_with_len f 0 count i i d below (omega arith)
        ∙ bit_at_place n (laced full) tail some frames c laced_size in_frame count i (omega arith) below
        ∙ bit_held i below
        ∙ get_or-same channel i false d (omega (arith, below, has.bits c in_frame)))

  pub channels_again : (tail : List ℕ) → dop_channels n (dop_samples n (laced full) ++ tail) count ≡ channels
  channels_again tail =
      let f : ℕ → List Bool = dop_channel n (dop_samples n (laced full) ++ tail) count in
      let long : length (map f (range_with_len 0 n)) ≡ n = length-map-range_with_len f 0 n in
      same_lists _ _ long (λ c d low.
      let below : c < n = omega (arith, low, long) in
      get_or-map-range_with_len f 0 n c c d below (omega arith) ∙ channel_again tail c below ∙ get_or-same channels c [] d below)
