-- Parts of what is played of a sound are played of the rest of its bytes.
use Rattle.std.proofs.Common.{◌≡◌, ℕ, zero, suc, ◌+◌, ◌-◌, ◌*◌, ◌/◌, ◌%◌, ◌^◌, ◌<◌, ◌≤◌, ◌⊎◌, inl, inr, Bool, false, List, map, length, drop, take, get_or, slice_range, nat_eq, refl, sym, ap, ap₂, ◌∙◌, arith, append-nil, eqb, if◌then◌else◌, length-drop, mul-le-mul_left, mul-one, one-mul, zero-mul, [], ◌∷◌}
use lib.Dec.{eqb-suc-zero}
use Rattle.std.specs.List.{flat_map, range_with_len}
use Rattle.std.specs.Int.{bit_at, div_ceil}
use Rattle.std.proofs.Math.Nat.{div-add-mod', div-mul-le_self, mul-div_cancel, mul-le-mul_right, mul_assoc}
use Rattle.std.proofs.lemmas.Bool.{cases_lt}
use Rattle.std.proofs.lemmas.Grind.{div_ceil_times}
use Rattle.std.proofs.lemmas.List.{get_or-drop, length-map, take_all}
use Rattle.std.proofs.lemmas.List.FromFn.{fill_by_all, get_or-map-range_with_len, length-map-range_with_len}
use Rattle.std.proofs.lemmas.Simd.{map-map}
use Rattle.dsd_bits.specs.declared.interleaving.Interleaving.{Interleaving}
use Rattle.dsd_bits.specs.declared.interleaving.Interleaving.TheVariants.{Bytes, Blocks}
use Rattle.dsd_bits.specs.declared.sound.Sound.{Sound}
use Rattle.dsd_bits.specs.Packing.{packed_bit}
use Rattle.dsd_bits.specs.Sounds.{IsSound, sound_channels, sound_size}
use Rattle.dsd_bits.proofs.LacingLemmas.{map_range_same}
use Rattle.dsd_bits.proofs.PackingLemmas.{get_or-unpacked, length-unpacked}
use Rattle.fir_core.specs.Decimator.{Decimator, IsWithinLimits, sample_at}
use Rattle.fir_core.specs.Rests.{first_whole}
use Rattle.fir_core.proofs.RestLaws.{rest_is_played}
use Rattle.fir_core.proofs.TileLaws.{below_ceil}
use Rattle.wave_core.specs.Sizes.{block_align}
use Rattle.wave_core.specs.Texts.{sample_bytes}
use Rattle.wave_core.proofs.SizeLaws.{length_of_samples}
use Rattle.player_core.specs.Due.{all_bytes, bytes_known, channel_bytes, channel_whole}
use Rattle.player_core.specs.Frames.{frame, frame_count, frames}
use Rattle.player_core.specs.Groups.{channel_byte, group_size, in_order, part_size, place_in}
use Rattle.player_core.specs.Laws.{total_frames}
use Rattle.player_core.specs.Parts.{PartsMeet, frames_apart, frames_before, groups_apart, groups_before, part_bytes, rest_of, steps_before}
use Rattle.player_core.proofs.FeedLaws.{mul_some, place_after, some_part}
use Rattle.player_core.proofs.FinishLaws.{channels_are, count_is, known_whole}
use Rattle.player_core.proofs.FrameLaws.{moved}
use Rattle.player_core.proofs.PlaceLaws.{some_more}
use Rattle.player_core.proofs.SoundLaws.{frames_fill}
use Rattle.player_core.proofs.SliceLaws.{slice_flat, slice_of_range, slices_meet}

-- ---- laws of parts
pub parts_meet : PartsMeet
parts_meet d s bytes a b c ab bc =
    slices_meet (all_bytes d s bytes) (a * block_align s.channels d.width) (b * block_align s.channels d.width) (c * block_align s.channels d.width)
    (mul-le-mul_right (block_align s.channels d.width) ab) (mul-le-mul_right (block_align s.channels d.width) bc)

-- ---- frames of a whole sound
module _ (d : Decimator) (s : Sound) (bytes : List ℕ) (is : IsSound s) (whole : s.interleaving ≡ Bytes → s.count % 8 ≡ 0) (all : length bytes ≡ s.size) where
  abbrev channels : List (List Bool)
  channels = sound_channels s.interleaving s.channels s.count bytes

  same : map (channel_whole s bytes) (range_with_len 0 s.channels) ≡ channels
  same = channels_are s is whole bytes all

  number : length channels ≡ s.channels
  number = ap length (sym same) ∙ length-map-range_with_len (channel_whole s bytes) 0 s.channels

  total : frame_count d channels ≡ total_frames d s
  total = ap (λ cs. frame_count d cs) (sym same) ∙ ap (λ k. div_ceil k d.factor) (count_is s is whole bytes all)

  frame_long : (j : ℕ) → length (frame d channels j) ≡ s.channels
  frame_long j = length-map channels (λ bits. sample_at d bits j) ∙ number

  sample_long : (z : _) → length (sample_bytes d.width z) ≡ d.width / 8
  sample_long z = sym (ap length (append-nil (sample_bytes d.width z))) ∙ length_of_samples d.width (z ∷ []) ∙ one-mul (d.width / 8)

  pub part_is : (a b : ℕ) → a ≤ b → b ≤ total_frames d s → part_bytes d s bytes a b ≡ flat_map (sample_bytes d.width) (flat_map (frame d channels) (range_with_len a (b - a)))
  part_is a b ordered inside =
      let w = d.width / 8 in
      ap₂ (λ m n. slice_range (all_bytes d s bytes) m n) (sym (mul_assoc a s.channels w)) (sym (mul_assoc b s.channels w))
      ∙ slice_flat (sample_bytes d.width) w sample_long (frames d channels) (a * s.channels) (b * s.channels) (mul-le-mul_right s.channels ordered)
      ∙ ap (flat_map (sample_bytes d.width)) (slice_flat (frame d channels) s.channels frame_long (range_with_len 0 (frame_count d channels)) a b ordered
      ∙ ap (flat_map (frame d channels)) (slice_of_range (frame_count d channels) a b (omega (arith, inside, total))))

  -- one frame, channel by channel
  frame_is : (j : ℕ) → frame d channels j ≡ map (λ c. sample_at d (channel_whole s bytes c) j) (range_with_len 0 s.channels)
  frame_is j = ap (λ cs. frame d cs j) (sym same) ∙ map-map (λ bits. sample_at d bits j) (channel_whole s bytes) (range_with_len 0 s.channels)

  length_all : length (all_bytes d s bytes) ≡ total_frames d s * block_align s.channels d.width
  length_all = frames_fill d s bytes is whole all

  pub whole_is_part : part_bytes d s bytes 0 (total_frames d s) ≡ all_bytes d s bytes
  whole_is_part =
      let align = block_align s.channels d.width in
      let none : 0 * align ≡ 0 = zero-mul align in
      let rest : total_frames d s * align - 0 * align ≡ total_frames d s * align = omega (arith, none) in
      ap₂ (λ m n. take m (drop n (all_bytes d s bytes))) rest none ∙ take_all (total_frames d s * align) (all_bytes d s bytes) (omega (arith, length_all))

-- ---- numbers
pub less_times : (a b c : ℕ) → (a - b) * c ≡ a * c - b * c
less_times a b c = elim (cases_lt a b) [
  | inl less ↦
      let none : a - b ≡ 0 = omega arith in
      let most : a * c ≤ b * c = mul-le-mul_right c (omega arith) in
      ap (λ n. n * c) none ∙ zero-mul c ∙ omega (arith, most)
  | inr more ↦
      let parts : b + (a - b) ≡ a = omega arith in
      let spread : (b + (a - b)) * c ≡ b * c + (a - b) * c = grind arith in
      let whole : (b + (a - b)) * c ≡ a * c = ap (λ n. n * c) parts in
      omega (arith, spread, whole)
]

-- ---- the rest of a sound
-- its size
rest_size : (o : Interleaving) (channels count k : ℕ) → sound_size o channels count - k * group_size o channels ≡ sound_size o channels (count - 8 * (k * part_size o))
rest_size Bytes channels count k =
    let number : (count - 8 * (k * 1)) / 8 ≡ count / 8 - k = omega arith in
    let one : k * (channels * 1) ≡ k * channels = ap (λ n. k * n) (mul-one channels) in
    ap (λ n. count / 8 * channels - n) one ∙ sym (less_times (count / 8) k channels) ∙ ap (λ n. n * channels) (sym number)
rest_size (Blocks order) channels count k =
    let groups = div_ceil count 32768 in
    let number : div_ceil (count - 8 * (k * 4096)) 32768 ≡ groups - k = omega arith in
    ap (λ n. n - k * (channels * 4096)) (mul_assoc groups channels 4096)
    ∙ sym (less_times groups k (channels * 4096))
    ∙ sym (mul_assoc (groups - k) channels 4096)
    ∙ ap (λ n. n * channels * 4096) (sym number)

-- a byte of one of its channels
byte_of_rest : (o : Interleaving) (channels : ℕ) (bytes : List ℕ) (c k p : ℕ) → channel_byte o channels (drop (k * (channels * part_size o)) bytes) c p ≡ channel_byte o channels bytes c (k * part_size o + p)
byte_of_rest o channels bytes c k p =
    ap (in_order o) (get_or-drop (k * (channels * part_size o)) bytes (place_in o channels c p) 0 ∙ ap (λ j. get_or bytes j 0) (sym (place_after o channels c p k)))

module _ (s : Sound) (is : IsSound s) (whole : s.interleaving ≡ Bytes → s.count % 8 ≡ 0) (k : ℕ) where
  pub rest_sound : IsSound (rest_of s k)
  rest_sound = record {
    rate_low = is.rate_low;
    rate_high = is.rate_high;
    some_channel = is.some_channel;
    six_channels = is.six_channels;
    in_limit = omega (arith, is.in_limit);
    size = ap (λ n. n - k * group_size s.interleaving s.channels) is.size ∙ rest_size s.interleaving s.channels s.count k;
  }

  pub rest_whole : (rest_of s k).interleaving ≡ Bytes → (rest_of s k).count % 8 ≡ 0
  rest_whole bytes = omega (arith, whole bytes)

  module _ (bytes : List ℕ) (all : length bytes ≡ s.size) where
    abbrev r : Sound
    r = rest_of s k

    abbrev left : List ℕ
    left = drop (k * group_size s.interleaving s.channels) bytes

    pub length_left : length left ≡ r.size
    length_left = length-drop (k * group_size s.interleaving s.channels) bytes ∙ ap (λ n. n - k * group_size s.interleaving s.channels) all

    known_here : bytes_known s (length bytes) ≡ div_ceil s.count 8
    known_here = ap (bytes_known s) all ∙ known_whole s is whole

    known_left : bytes_known r (length left) ≡ div_ceil r.count 8
    known_left = ap (bytes_known r) length_left ∙ known_whole r rest_sound rest_whole

    module _ (c : ℕ) where
      abbrev q : ℕ
      q = k * part_size s.interleaving

      bit_of_rest : (i : ℕ) → i < r.count → packed_bit (channel_bytes s bytes c) (8 * q + i) ≡ packed_bit (channel_bytes r left c) i
      bit_of_rest i low =
          let place : (8 * q + i) / 8 ≡ q + i / 8 = omega arith in
          let phase : (8 * q + i) % 8 ≡ i % 8 = omega arith in
          let here : get_or (channel_bytes s bytes c) (q + i / 8) 0 ≡ channel_byte s.interleaving s.channels bytes c (q + i / 8)
          = get_or-map-range_with_len (channel_byte s.interleaving s.channels bytes c) 0 (bytes_known s (length bytes)) (q + i / 8) (q + i / 8) 0 (omega (arith, low, known_here)) (omega arith) in
          let there : get_or (channel_bytes r left c) (i / 8) 0 ≡ channel_byte s.interleaving s.channels left c (i / 8)
          = get_or-map-range_with_len (channel_byte s.interleaving s.channels left c) 0 (bytes_known r (length left)) (i / 8) (i / 8) 0 (omega (arith, low, known_left)) (omega arith) in
          ap₂ (λ a b. eqb (bit_at (get_or (channel_bytes s bytes c) a 0) (7 - b)) 1) place phase
          ∙ ap (λ v. eqb (bit_at v (7 - i % 8)) 1) (here ∙ sym (byte_of_rest s.interleaving s.channels bytes c k (i / 8)) ∙ sym there)

      pub channel_of_rest : channel_whole r left c ≡ drop (8 * q) (channel_whole s bytes c)
      channel_of_rest =
          sym (fill_by_all (packed_bit (channel_bytes r left c)) (drop (8 * q) (channel_whole s bytes c)) r.count false
          (length-drop (8 * q) (channel_whole s bytes c) ∙ ap (λ n. n - 8 * q) (length-unpacked (channel_bytes s bytes c) s.count))
          (λ i low.
          get_or-drop (8 * q) (channel_whole s bytes c) i false
          ∙ get_or-unpacked (channel_bytes s bytes c) s.count (8 * q + i) (omega (arith, low))
          ∙ bit_of_rest i low))

    -- its frames are those of the whole, from the first whose taps read nothing before it
    module _ (d : Decimator) (m : ℕ) (places : m * d.factor ≡ 8 * (k * part_size s.interleaving)) where
      frame_of_rest : (j : ℕ) → (m ≡ 0) ⊎ (length d.taps ≤ j * d.factor + d.delay + 1)
          → frame d (sound_channels s.interleaving s.channels r.count left) j ≡ frame d (sound_channels s.interleaving s.channels s.count bytes) (m + j)
      frame_of_rest j reaches =
          frame_is d r left rest_sound rest_whole length_left j
          ∙ map_range_same s.channels (λ c. sample_at d (channel_whole r left c) j) (λ c. sample_at d (channel_whole s bytes c) (m + j))
          (λ c low. ap (λ bits. sample_at d bits j) (channel_of_rest c ∙ ap (λ n. drop n (channel_whole s bytes c)) (sym places)) ∙ rest_is_played d (channel_whole s bytes c) m j reaches)
          ∙ sym (frame_is d s bytes is whole all (m + j))

      total_left : (b : ℕ) → 0 < d.factor → b ≤ total_frames d s → b - m ≤ total_frames d r
      total_left b some inside = elim (cases_lt m b) [
        | inl more ↦
            let e = b - m - 1 in
            let last : m + e ≡ b - 1 = omega arith in
            let below : (b - 1) * d.factor < s.count = below_ceil (b - 1) s.count d.factor some (omega (arith, more, inside)) in
            let spread : (m + e) * d.factor ≡ m * d.factor + e * d.factor = grind arith in
            let same : (m + e) * d.factor ≡ (b - 1) * d.factor = ap (λ n. n * d.factor) last in
            let one = some_more e (s.count - 8 * (k * part_size s.interleaving)) d.factor some (omega (arith, below, spread, same, places)) in
            omega (arith, one)
        | inr none ↦ omega arith
      ]

      pub part_of_rest : (a b : ℕ) → 0 < d.factor → a ≤ b → b ≤ total_frames d s → m ≤ a → (m ≡ 0) ⊎ (length d.taps ≤ (a - m) * d.factor + d.delay + 1)
          → part_bytes d r left (a - m) (b - m) ≡ part_bytes d s bytes a b
      part_of_rest a b some ordered inside early reaches =
          let here = sound_channels s.interleaving s.channels s.count bytes in
          let there = sound_channels s.interleaving s.channels r.count left in
          let n : (b - m) - (a - m) ≡ b - a = omega arith in
          let reached : (i : ℕ) → (m ≡ 0) ⊎ (length d.taps ≤ ((a - m) + i) * d.factor + d.delay + 1) = λ i. elim reaches [
            | inl none ↦ inl none
            | inr enough ↦ (let more : (a - m) * d.factor ≤ ((a - m) + i) * d.factor = mul-le-mul_right d.factor (omega arith) in inr (omega (arith, enough, more)))
          ] in
          let frames_same : flat_map (frame d there) (range_with_len (a - m) (b - a)) ≡ flat_map (frame d here) (range_with_len a (b - a)) =
          sym (moved (λ i. frame d here (a + i)) (frame d there) (a - m) (b - a)
          (λ i low. let place : m + ((a - m) + i) ≡ a + i = omega arith in sym (frame_of_rest ((a - m) + i) (reached i) ∙ ap (frame d here) place)))
          ∙ moved (λ i. frame d here (a + i)) (frame d here) a (b - a) (λ i low. refl) in
          part_is d r left rest_sound rest_whole length_left (a - m) (b - m) (omega arith) (total_left b some inside)
          ∙ ap (λ k. flat_map (sample_bytes d.width) (flat_map (frame d there) (range_with_len (a - m) k))) n
          ∙ ap (flat_map (sample_bytes d.width)) frames_same
          ∙ sym (part_is d s bytes is whole all a b ordered inside)

-- ---- where the rest begins
module _ (d : Decimator) (o : Interleaving) (limits : IsWithinLimits d) where
  abbrev bits : ℕ
  bits = 8 * part_size o

  pub some_factor : 0 < d.factor
  some_factor = omega (arith, limits.least_factor)

  apart : frames_apart d o * d.factor ≡ 8 * (groups_apart d o * part_size o)
  apart = by (bits % d.factor) refl
    where
      by : (n : ℕ) → bits % d.factor ≡ n → frames_apart d o * d.factor ≡ 8 * (groups_apart d o * part_size o)
      by zero e =
          let one : groups_apart d o ≡ 1 = ap (λ n. if nat_eq n 0 then 1 else d.factor / 8) e in
          let whole : bits / d.factor * d.factor ≡ bits = omega (arith, div-add-mod' bits d.factor, e) in
          ap (λ g. g * bits / d.factor * d.factor) one ∙ ap (λ n. n / d.factor * d.factor) (one-mul bits) ∙ whole ∙ ap (λ g. 8 * g) (sym (one-mul (part_size o)) ∙ ap (λ g. g * part_size o) (sym one))
      by (suc n) e =
          let some : groups_apart d o ≡ d.factor / 8 = ap (λ n. if nat_eq n 0 then 1 else d.factor / 8) e ∙ ap (λ (b : Bool). if b then 1 else d.factor / 8) (eqb-suc-zero n) in
          let eights : d.factor / 8 * 8 ≡ d.factor = omega (arith, limits.whole_bytes) in
          let turned : d.factor / 8 * (8 * part_size o) ≡ part_size o * (d.factor / 8 * 8) = grind arith in
          let product : d.factor / 8 * bits ≡ part_size o * d.factor = turned ∙ ap (λ n. part_size o * n) eights in
          let back : 8 * (d.factor / 8 * part_size o) ≡ part_size o * (d.factor / 8 * 8) = grind arith in
          ap (λ g. g * bits / d.factor * d.factor) some ∙ ap (λ n. n / d.factor * d.factor) product ∙ ap (λ n. n * d.factor) (mul-div_cancel (part_size o) some_factor)
          ∙ ap (λ n. part_size o * n) (sym eights) ∙ sym back ∙ ap (λ g. 8 * (g * part_size o)) (sym some)

  pub some_groups : (1 ≤ groups_apart d o) × (groups_apart d o ≤ 128)
  some_groups = by (bits % d.factor) refl
    where
      by : (n : ℕ) → bits % d.factor ≡ n → (1 ≤ groups_apart d o) × (groups_apart d o ≤ 128)
      by zero e = let one : groups_apart d o ≡ 1 = ap (λ n. if nat_eq n 0 then 1 else d.factor / 8) e in (omega (arith, one), omega (arith, one))
      by (suc n) e = let some : groups_apart d o ≡ d.factor / 8 = ap (λ n. if nat_eq n 0 then 1 else d.factor / 8) e ∙ ap (λ (b : Bool). if b then 1 else d.factor / 8) (eqb-suc-zero n) in (omega (arith, some, limits.least_factor), omega (arith, some, limits.greatest_factor))

  pub some_frames : 1 ≤ frames_apart d o
  some_frames = elim (cases_lt 0 (frames_apart d o)) [
    | inl some ↦ some
    | inr none ↦
        let zero_of : frames_apart d o ≡ 0 = omega arith in
        let product : 0 < groups_apart d o * part_size o = mul_some (groups_apart d o) (part_size o) some_groups.0 (some_part o) in
        absurd (omega (arith, apart, ap (λ n. n * d.factor) zero_of ∙ zero-mul d.factor, product))
  ]

  module _ (start : ℕ) where
    pub places_are : frames_before d o start * d.factor ≡ 8 * (groups_before d o start * part_size o)
    places_are =
        let steps = steps_before d o start in
        let turned : steps * (8 * (groups_apart d o * part_size o)) ≡ 8 * (steps * groups_apart d o * part_size o) = grind arith in
        mul_assoc steps (frames_apart d o) d.factor ∙ ap (λ n. steps * n) apart ∙ turned

    pub frames_few : frames_before d o start ≤ start - first_whole d
    frames_few = div-mul-le_self (start - first_whole d) (frames_apart d o)

    pub reaches_enough : (frames_before d o start ≡ 0) ⊎ (length d.taps ≤ (start - frames_before d o start) * d.factor + d.delay + 1)
    reaches_enough = elim (cases_lt 0 (frames_before d o start)) [
      | inl some ↦
          let more : first_whole d * d.factor ≤ (start - frames_before d o start) * d.factor = mul-le-mul_right d.factor (omega (arith, frames_few, some)) in
          inr (omega (arith, more, (div_ceil_times (length d.taps - (d.delay + 1)) d.factor some_factor).0))
      | inr none ↦ inl (omega arith)
    ]

    -- the groups that are left out are few, where the frame lies in a sound
    pub groups_few : (count : ℕ) → start ≤ div_ceil count d.factor → count ≤ 2 ^ 36 → groups_before d o start ≤ 2 ^ 37
    groups_few count inside low =
        let product : frames_before d o start * d.factor ≤ div_ceil count d.factor * d.factor = mul-le-mul_right d.factor (omega (arith, frames_few, inside)) in
        let up = (div_ceil_times count d.factor some_factor).1 in
        let one : groups_before d o start * 1 ≤ groups_before d o start * part_size o = mul-le-mul_left (groups_before d o start) (some_part o) in
        omega (arith, product, up, places_are, one, limits.greatest_factor, low)

-- ---- sizes that code reckons with
pub total_few : (count factor : ℕ) → count ≤ 2 ^ 36 → 8 ≤ factor → factor ≤ 1024 → div_ceil count factor ≤ 2 ^ 34
total_few count factor low least most =
    let up = (div_ceil_times count factor (omega arith)).1 in
    let eight : div_ceil count factor * 8 ≤ div_ceil count factor * factor = mul-le-mul_left (div_ceil count factor) least in
    omega (arith, up, eight)

pub group_small : (o : Interleaving) (channels : ℕ) → channels ≤ 6 → group_size o channels ≤ 24576
group_small Bytes channels six = omega arith
group_small (Blocks order) channels six = omega arith

pub frame_small : (d : Decimator) (channels : ℕ) → IsWithinLimits d → channels ≤ 6 → block_align channels d.width ≤ 18
frame_small d channels limits six =
    let w = d.width / 8 in
    let three : w ≤ 3 = elim limits.known_width [
      | inl sixteen ↦ omega (arith, sixteen)
      | inr more ↦ omega (arith, more)
    ] in
    let frame : channels * w ≤ 6 * w = mul-le-mul_right w six in
    omega (arith, frame, three)

pub few_times : (a b : ℕ) → a ≤ 2 ^ 37 → b ≤ 24576 → a * b ≤ 2 ^ 60
few_times a b few small = let product : a * b ≤ 2 ^ 37 * b = mul-le-mul_right b few in omega (arith, product, small)
