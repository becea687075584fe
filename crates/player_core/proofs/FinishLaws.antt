-- The rest of the frames, after all sound bytes.
use Rattle.std.proofs.Common.{◌≡◌, ℕ, ◌+◌, ◌-◌, ◌*◌, ◌/◌, ◌%◌, ◌≤◌, ◌⊎◌, ℤ, Bool, List, [], ◌++◌, All, map, length, slice_index, refl, sym, subst, ap, ap₂, ◌∙◌, arith}
use Rattle.std.specs.List.{flat_map, range_with_len}
use Rattle.std.specs.Int.{div_ceil}
use Rattle.std.proofs.Math.Nat.{mul-div_cancel, mul-div_cancel_left}
use Rattle.std.proofs.lemmas.Grind.{flat_map-append}
use Rattle.std.proofs.lemmas.List.FromFn.{get_or-map-range_with_len, length-map-range_with_len}
use Rattle.dsd_bits.specs.declared.interleaving.Interleaving.{Interleaving}
use Rattle.dsd_bits.specs.declared.interleaving.Interleaving.TheVariants.{Bytes, Blocks}
use Rattle.dsd_bits.specs.declared.sound.Sound.{Sound}
use Rattle.dsd_bits.specs.Blocks.{unblocked}
use Rattle.dsd_bits.specs.Channels.{count_of}
use Rattle.dsd_bits.specs.Lacing.{laced_bit, unlaced}
use Rattle.dsd_bits.specs.Packing.{unpacked}
use Rattle.dsd_bits.specs.Sounds.{IsSound, sound_channels, sound_size}
use Rattle.dsd_bits.proofs.BlockLemmas.{map_range_join, unblocked_is}
use Rattle.dsd_bits.proofs.LacingLemmas.{map_range_same, own_bytes, unpacked-own_bytes}
use Rattle.dsd_bits.proofs.PackingLemmas.{length-unpacked}
use Rattle.fir_core.specs.Decimator.{Decimator, sample_at, samples, samples_of}
use Rattle.fir_core.specs.Streams.{Finishes, Fits, due, due_number, bits_held}
use Rattle.fir_core.specs.StreamView.{state_of}
use Rattle.fir_core.specs.declared.stream.Stream.{Stream}
use Rattle.wave_core.specs.Contents.{IsSample}
use Rattle.wave_core.specs.Frames.{frames_of}
use Rattle.wave_core.specs.Texts.{sample_bytes}
use Rattle.player_core.specs.Due.{all_bytes, bytes_known, channel_bits, channel_bytes, channel_whole, channels_known, due_bytes, frames_due}
use Rattle.player_core.specs.Frames.{frame, frame_count, frames_below, tile_of}
use Rattle.player_core.specs.Groups.{channel_byte, channel_part, part_size}
use Rattle.player_core.specs.PlayerView.{IsChannel}
use Rattle.player_core.proofs.FeedLaws.{ceil_grows, mul_some, same_backs}
use Rattle.player_core.proofs.FrameLaws.{all_samples, frames_are, in_two, length-tile}
use Rattle.player_core.proofs.GroupLaws.{blocks_are}

-- ---- one stream's rest
module _ (d : Decimator) (s : Sound) (bytes : List ℕ) (c : ℕ) (least : 8 ≤ d.factor) where
  n : ℕ
  n = frames_due d s (length bytes)

  m : ℕ
  m = div_ceil s.count d.factor - frames_due d s (length bytes)

  within : n ≤ div_ceil s.count d.factor
  unfolding n
  within = ceil_grows (bits_held s.count (bytes_known s (length bytes)) - d.delay) s.count d.factor (omega arith) (omega arith)

  size : length (channel_bytes s bytes c) ≡ bytes_known s (length bytes)
  size = length-map-range_with_len (channel_byte s.interleaving s.channels bytes c) 0 (bytes_known s (length bytes))

  pub rest_of : (old : Stream) (fed : ℕ) (before after : List ℤ) → IsChannel d s.count fed old → Finishes (state_of old) before after → Fits (state_of old) (channel_bytes s bytes c)
      → after ≡ before ++ samples_of d (channel_whole s bytes c) (frames_due d s (length bytes)) (div_ceil s.count d.factor - frames_due d s (length bytes))
  unfolding n m
  rest_of old fed before after chan finishes fits =
      let x = channel_bytes s bytes c in
      let whole : frames_due d s (length bytes) + (div_ceil s.count d.factor - frames_due d s (length bytes)) ≡ div_ceil s.count d.factor = omega (arith, within) in
      let first = samples_of d (channel_whole s bytes c) 0 (frames_due d s (length bytes)) in
      let stated : samples d (unpacked x s.count) ≡ due d s.count x ++ finishes.0
      = ap₂ (λ (e : Decimator) (b : ℕ). samples e (unpacked x b)) (sym chan.filter) (sym chan.bits) ∙ finishes.2 x fits ∙ ap₂ (λ (e : Decimator) (b : ℕ). due e b x ++ finishes.0) chan.filter chan.bits in
      let split : samples d (unpacked x s.count) ≡ first ++ samples_of d (channel_whole s bytes c) (frames_due d s (length bytes)) (div_ceil s.count d.factor - frames_due d s (length bytes))
      = ap (λ k. samples_of d (channel_whole s bytes c) 0 (div_ceil k d.factor)) (length-unpacked x s.count) ∙ ap (samples_of d (channel_whole s bytes c) 0) (sym whole)
      ∙ sym (map_range_join (sample_at d (channel_whole s bytes c)) (sample_at d (channel_whole s bytes c)) (frames_due d s (length bytes)) (frames_due d s (length bytes)) (div_ceil s.count d.factor - frames_due d s (length bytes)) (λ j h. refl)) in
      let long : length (due d s.count x) ≡ length first
      = length-map-range_with_len _ 0 (due_number d s.count (length x)) ∙ ap (due_number d s.count) size ∙ sym (length-map-range_with_len (sample_at d (channel_whole s bytes c)) 0 (frames_due d s (length bytes))) in
      finishes.1 ∙ ap (λ xs. before ++ xs) (same_backs (due d s.count x) first finishes.0 (samples_of d (channel_whole s bytes c) (frames_due d s (length bytes)) (div_ceil s.count d.factor - frames_due d s (length bytes))) long (sym stated ∙ split))

-- ---- channel by channel
-- channel c of the sound bytes
abbrev get_channel : Interleaving → ℕ → ℕ → List ℕ → ℕ → List Bool
get_channel Bytes channels count bytes c = unlaced bytes channels c
get_channel (Blocks order) channels count bytes c = unblocked order bytes channels count c

all_channels : (interleaving : Interleaving) (channels count : ℕ) (bytes : List ℕ) → map (get_channel interleaving channels count bytes) (range_with_len 0 channels) ≡ sound_channels interleaving channels count bytes
all_channels Bytes channels count bytes = refl
all_channels (Blocks order) channels count bytes = refl

strided_part : (bytes : List ℕ) (channels c number : ℕ) → channel_part Bytes channels bytes c 0 number ≡ own_bytes bytes channels c number
strided_part bytes channels c number =
    map_range_same number (channel_byte Bytes channels bytes c) (λ frame. slice_index bytes (frame * channels + c))
    (λ p h.
    let q : p / 1 ≡ p = omega arith in
    let place : (p / 1 * channels + c) * 1 + p % 1 ≡ p * channels + c = ap (λ n. (n * channels + c) * 1 + p % 1) q ∙ omega arith in
    ap (slice_index bytes) place)

-- ---- all bytes are known
module _ (s : Sound) (is : IsSound s) (whole : s.interleaving ≡ Bytes → s.count % 8 ≡ 0) where
  pub known_whole : bytes_known s s.size ≡ div_ceil s.count 8
  known_whole = by s.interleaving refl
    where
      by : (interleaving : Interleaving) → s.interleaving ≡ interleaving → bytes_known s s.size ≡ div_ceil s.count 8
      by Bytes e =
          let part : part_size s.interleaving ≡ 1 = ap part_size e in
          let size : s.size ≡ s.count / 8 * s.channels = is.size ∙ ap (λ o. sound_size o s.channels s.count) e in
          let one : s.channels * 1 ≡ s.channels = omega arith in
          let parts : s.size / (s.channels * part_size s.interleaving) * part_size s.interleaving ≡ s.count / 8 * 1 =
          ap (λ p. s.size / (s.channels * p) * p) part ∙ ap₂ (λ a b. a / b * 1) size one ∙ ap (λ a. a * 1) (mul-div_cancel (s.count / 8) is.some_channel) in
          omega (arith, parts, whole e)
      by (Blocks order) e =
          let part : part_size s.interleaving ≡ 4096 = ap part_size e in
          let size : s.size ≡ div_ceil s.count 32768 * s.channels * 4096 = is.size ∙ ap (λ o. sound_size o s.channels s.count) e in
          let grouped : div_ceil s.count 32768 * s.channels * 4096 ≡ div_ceil s.count 32768 * (s.channels * 4096) = grind arith in
          let parts : s.size / (s.channels * part_size s.interleaving) * part_size s.interleaving ≡ div_ceil s.count 32768 * 4096 =
          ap (λ p. s.size / (s.channels * p) * p) part ∙ ap (λ a. a / (s.channels * 4096) * 4096) (size ∙ grouped) ∙ ap (λ a. a * 4096) (mul-div_cancel (div_ceil s.count 32768) (mul_some s.channels 4096 is.some_channel (omega arith))) in
          omega (arith, parts)

  module _ (bytes : List ℕ) (all : length bytes ≡ s.size) where
    known_all : bytes_known s (length bytes) ≡ div_ceil s.count 8
    known_all = ap (bytes_known s) all ∙ known_whole

    -- a channel's bits are those of the sound
    channel_is : (c : ℕ) → channel_whole s bytes c ≡ get_channel s.interleaving s.channels s.count bytes c
    channel_is c = by s.interleaving refl
      where
        by : (interleaving : Interleaving) → s.interleaving ≡ interleaving → channel_whole s bytes c ≡ get_channel s.interleaving s.channels s.count bytes c
        by Bytes e =
            let size : length bytes ≡ s.count / 8 * s.channels = all ∙ is.size ∙ ap (λ o. sound_size o s.channels s.count) e in
            let number : div_ceil s.count 8 ≡ s.count / 8 = omega (arith, whole e) in
            let bits : s.count ≡ 8 * (s.count / 8) = omega (arith, whole e) in
            let frames : length bytes / s.channels ≡ s.count / 8 = ap (λ n. n / s.channels) size ∙ mul-div_cancel (s.count / 8) is.some_channel in
            ap₂ (λ o (n : ℕ). unpacked (channel_part o s.channels bytes c 0 n) s.count) e (known_all ∙ number)
            ∙ ap (λ xs. unpacked xs s.count) (strided_part bytes s.channels c (s.count / 8))
            ∙ ap (unpacked (own_bytes bytes s.channels c (s.count / 8))) bits
            ∙ unpacked-own_bytes bytes s.channels c (s.count / 8)
            ∙ ap (λ (n : ℕ). map (laced_bit bytes s.channels c) (range_with_len 0 (8 * n))) (sym frames)
            ∙ ap (λ o. get_channel o s.channels s.count bytes c) (sym e)
        by (Blocks order) e =
            ap₂ (λ o (n : ℕ). unpacked (channel_part o s.channels bytes c 0 n) s.count) e known_all
            ∙ ap (λ xs. unpacked xs s.count) (sym (blocks_are order s.channels bytes c (div_ceil s.count 8)))
            ∙ unblocked_is order bytes s.channels c s.count
            ∙ ap (λ o. get_channel o s.channels s.count bytes c) (sym e)

    pub channels_are : map (channel_whole s bytes) (range_with_len 0 s.channels) ≡ sound_channels s.interleaving s.channels s.count bytes
    channels_are =
        map_range_same s.channels (channel_whole s bytes) (get_channel s.interleaving s.channels s.count bytes) (λ c h. channel_is c)
        ∙ all_channels s.interleaving s.channels s.count bytes

    -- and all of them are known
    known_are : channels_known s bytes ≡ map (channel_whole s bytes) (range_with_len 0 s.channels)
    known_are =
        map_range_same s.channels (channel_bits s bytes) (channel_whole s bytes)
        (λ c h. ap (unpacked (channel_bytes s bytes c)) (let full : bits_held s.count (bytes_known s (length bytes)) ≡ s.count = omega (arith, known_all) in full))

    pub count_is : count_of (map (channel_whole s bytes) (range_with_len 0 s.channels)) ≡ s.count
    count_is =
        ap length (get_or-map-range_with_len (channel_whole s bytes) 0 s.channels 0 0 [] is.some_channel refl)
        ∙ length-unpacked (channel_bytes s bytes 0) s.count

    -- the frames that were due, and the rest
    pub gives_all : (d : Decimator) (tile : List ℤ) → 8 ≤ d.factor
        → tile ≡ tile_of d (map (channel_whole s bytes) (range_with_len 0 s.channels)) (frames_due d s (length bytes)) (div_ceil s.count d.factor - frames_due d s (length bytes))
        → all_bytes d s bytes ≡ due_bytes d s bytes ++ flat_map (sample_bytes d.width) (frames_of tile (length tile / s.channels))
    gives_all d tile least made =
        let X = map (channel_whole s bytes) (range_with_len 0 s.channels) in
        let n = frames_due d s (length bytes) in
        let m = div_ceil s.count d.factor - n in
        let within : n ≤ div_ceil s.count d.factor = ceil_grows (bits_held s.count (bytes_known s (length bytes)) - d.delay) s.count d.factor (omega arith) (omega arith) in
        let total : div_ceil (count_of X) d.factor ≡ n + m = ap (λ k. div_ceil k d.factor) count_is ∙ omega (arith, within) in
        let number_of : length X ≡ s.channels = length-map-range_with_len (channel_whole s bytes) 0 s.channels in
        let columns : length tile / s.channels ≡ m = ap (λ l. l / s.channels) (ap length made ∙ length-tile d X n m ∙ ap (λ c. c * m) number_of) ∙ mul-div_cancel_left m is.some_channel in
        let sb = flat_map (sample_bytes d.width) in
        ap (λ xs. sb (frames_below d xs (frame_count d xs))) (sym channels_are)
        ∙ ap (λ k. sb (frames_below d X k)) total
        ∙ ap sb (in_two (frame d X) n m)
        ∙ flat_map-append (sample_bytes d.width) (flat_map (frame d X) (range_with_len 0 n)) (flat_map (frame d X) (range_with_len n m))
        ∙ ap₂ (λ xs ys. sb (frames_below d xs n) ++ sb ys) (sym known_are) (sym (frames_are d X n m) ∙ ap₂ (λ xs (l : ℕ). frames_of xs l) (sym made) (sym columns))

    pub rest_in_range : (d : Decimator) (tile : List ℤ) (width : ℕ) → width ≡ d.width → (d.width ≡ 16) ⊎ (d.width ≡ 24)
        → tile ≡ tile_of d (map (channel_whole s bytes) (range_with_len 0 s.channels)) (frames_due d s (length bytes)) (div_ceil s.count d.factor - frames_due d s (length bytes))
        → All (IsSample width) tile
    rest_in_range d tile width same known made =
        subst (All (IsSample width)) (sym made) (all_samples d (map (channel_whole s bytes) (range_with_len 0 s.channels)) (frames_due d s (length bytes)) (div_ceil s.count d.factor - frames_due d s (length bytes)) width same known)

    pub rest_of_all : (d : Decimator) → 8 ≤ d.factor → (more : List ℕ) × (all_bytes d s bytes ≡ due_bytes d s bytes ++ more)
    rest_of_all d least =
        let tile = tile_of d (map (channel_whole s bytes) (range_with_len 0 s.channels)) (frames_due d s (length bytes)) (div_ceil s.count d.factor - frames_due d s (length bytes)) in
        (flat_map (sample_bytes d.width) (frames_of tile (length tile / s.channels)), gives_all d tile least refl)
