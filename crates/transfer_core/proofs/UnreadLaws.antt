-- Samples that don't change where bytes change whose bits they don't read.
use Rattle.std.proofs.Common.{◌≡◌, ℕ, ◌+◌, ◌-◌, ◌*◌, ◌/◌, ◌%◌, ◌<◌, ◌≤◌, pos, ◌-ℤ◌, ◌*ℤ◌, inl, inr, Bool, List, length, map, drop, get_or, slice_index, slice_range, Option, None, Some, IfSome, eqb, refl, sym, ap, subst, ◌∙◌, arith, length-drop, length-take-le}
use Rattle.std.specs.Prelude.{unwrap_or}
use Rattle.std.specs.List.{flat_map, range_with_len}
use Rattle.std.specs.Int.{bit_at, div_ceil}
use Rattle.std.proofs.lemmas.Bool.{cases_lt}
use Rattle.std.proofs.lemmas.List.{length-map}
use Rattle.std.proofs.lemmas.List.FromFn.{get_or-map-range_with_len}
use Rattle.std.proofs.lemmas.Simd.{map-map}
use Rattle.dsd_bits.specs.declared.interleaving.Interleaving.TheVariants.{Bytes}
use Rattle.dsd_bits.specs.declared.sound.Sound.{Sound}
use Rattle.dsd_bits.specs.Contents.{Content}
use Rattle.dsd_bits.specs.Packing.{packed_bit}
use Rattle.dsd_bits.specs.Sounds.{HasSound, IsSound, sound_bytes, sound_channels}
use Rattle.dsd_bits.specs.Sums.{sign}
use Rattle.dsd_bits.proofs.LacingLemmas.{map_range_same}
use Rattle.dsd_bits.proofs.PackingLemmas.{get_or-unpacked, length-unpacked}
use Rattle.fir_core.specs.Convolution.{signal}
use Rattle.fir_core.specs.Decimator.{Decimator, sample_at}
use Rattle.fir_core.specs.Rounding.{round_clip}
use Rattle.fir_core.proofs.SumOrder.{sum_below_same}
use Rattle.fir_core.proofs.Sums.{signal_after, signal_before, signal_inside, term}
use Rattle.player_core.specs.Due.{bytes_known, channel_bytes, channel_whole}
use Rattle.player_core.specs.Frames.{frame, frame_count, frames}
use Rattle.player_core.specs.Groups.{channel_byte, in_order, place_in}
use Rattle.player_core.specs.Playing.{part_pcm, range_pcm}
use Rattle.player_core.specs.Ranges.{HasFrame, IsInside, stop_of}
use Rattle.player_core.specs.declared.range.WaveRange.{WaveRange}
use Rattle.player_core.proofs.FinishLaws.{channels_are, known_whole}
use Rattle.player_core.proofs.FrameLaws.{moved}
use Rattle.player_core.proofs.SliceLaws.{slice_flat, slice_of_range}
use Rattle.transfer_core.specs.Unread.{ReadsBit}

-- ---- sound bytes that are the same wherever a frame's taps lie
module _ (d : Decimator) (s : Sound) (is : IsSound s) (whole : s.interleaving ≡ Bytes → s.count % 8 ≡ 0) (xs ys : List ℕ) (long_x : length xs ≡ s.size) (long_y : length ys ≡ s.size) where
  -- the byte that holds bit i of channel c is the same
  abbrev pub AreSameAt : ℕ → ℕ → Type 0
  AreSameAt i c = slice_index ys (place_in s.interleaving s.channels c (i / 8)) ≡ slice_index xs (place_in s.interleaving s.channels c (i / 8))

  byte_is : (bytes : List ℕ) → length bytes ≡ s.size → (c i : ℕ) → i < s.count → slice_index (channel_bytes s bytes c) (i / 8) ≡ channel_byte s.interleaving s.channels bytes c (i / 8)
  byte_is bytes long c i low =
      let known : bytes_known s (length bytes) ≡ div_ceil s.count 8 = ap (bytes_known s) long ∙ known_whole s is whole in
      get_or-map-range_with_len (channel_byte s.interleaving s.channels bytes c) 0 (bytes_known s (length bytes)) (i / 8) (i / 8) 0 (omega (arith, low, known)) (omega arith)

  bit_same : (c i : ℕ) → i < s.count → AreSameAt i c → packed_bit (channel_bytes s ys c) i ≡ packed_bit (channel_bytes s xs c) i
  bit_same c i low same = ap (λ v. eqb (bit_at v (7 - i % 8)) 1) (byte_is ys long_y c i low ∙ ap (in_order s.interleaving) same ∙ sym (byte_is xs long_x c i low))

  module _ (j c : ℕ) (same : (i : ℕ) → ReadsBit d j i → i < s.count → AreSameAt i c) where
    abbrev n : ℕ
    n = j * d.factor + d.delay

    signal_same : (k : ℕ) → k < length d.taps → signal (channel_whole s ys c) (pos n -ℤ pos k) ≡ signal (channel_whole s xs c) (pos n -ℤ pos k)
    signal_same k low = elim (cases_lt n k) [
      | inl before ↦ signal_before (channel_whole s ys c) n k before ∙ sym (signal_before (channel_whole s xs c) n k before)
      | inr from ↦ elim (cases_lt (n - k) s.count) [
        | inl within ↦
            signal_inside (channel_whole s ys c) n k from (omega (arith, within, length-unpacked (channel_bytes s ys c) s.count))
            ∙ ap sign (get_or-unpacked (channel_bytes s ys c) s.count (n - k) within
            ∙ bit_same c (n - k) within (same (n - k) (k, low, omega (arith, from)) within)
            ∙ sym (get_or-unpacked (channel_bytes s xs c) s.count (n - k) within))
            ∙ sym (signal_inside (channel_whole s xs c) n k from (omega (arith, within, length-unpacked (channel_bytes s xs c) s.count)))
        | inr past ↦
            signal_after (channel_whole s ys c) n k from (omega (arith, past, length-unpacked (channel_bytes s ys c) s.count))
            ∙ sym (signal_after (channel_whole s xs c) n k from (omega (arith, past, length-unpacked (channel_bytes s xs c) s.count)))
      ]
    ]

    sample_same : sample_at d (channel_whole s ys c) j ≡ sample_at d (channel_whole s xs c) j
    sample_same =
        ap (λ z. round_clip z d.shift d.width)
        (sum_below_same (length d.taps) (term d.taps (channel_whole s ys c) n) (term d.taps (channel_whole s xs c) n) (λ k low. ap (λ z. get_or d.taps k (pos 0) *ℤ z) (signal_same k low)))

  abbrev channels_of : List ℕ → List (List Bool)
  channels_of bytes = sound_channels s.interleaving s.channels s.count bytes

  frame_is : (bytes : List ℕ) → length bytes ≡ s.size → (j : ℕ) → frame d (channels_of bytes) j ≡ map (λ c. sample_at d (channel_whole s bytes c) j) (range_with_len 0 s.channels)
  frame_is bytes long j = ap (λ cs. frame d cs j) (sym (channels_are s is whole bytes long)) ∙ map-map (λ bits. sample_at d bits j) (channel_whole s bytes) (range_with_len 0 s.channels)

  frame_same : (j : ℕ) → ((i c : ℕ) → ReadsBit d j i → i < s.count → c < s.channels → AreSameAt i c) → frame d (channels_of ys) j ≡ frame d (channels_of xs) j
  frame_same j same =
      frame_is ys long_y j
      ∙ map_range_same s.channels (λ c. sample_at d (channel_whole s ys c) j) (λ c. sample_at d (channel_whole s xs c) j) (λ c low. sample_same j c (λ i reads inside. same i c reads inside low))
      ∙ sym (frame_is xs long_x j)

  pub frames_same : (a b : ℕ) → a ≤ b → ((j i c : ℕ) → a ≤ j → j < b → ReadsBit d j i → i < s.count → c < s.channels → AreSameAt i c)
      → flat_map (frame d (channels_of ys)) (range_with_len a (b - a)) ≡ flat_map (frame d (channels_of xs)) (range_with_len a (b - a))
  frames_same a b ordered same =
      sym (moved (λ i. frame d (channels_of xs) (a + i)) (frame d (channels_of ys)) a (b - a)
      (λ i low. sym (frame_same (a + i) (λ t c. same (a + i) t c (omega arith) (omega (arith, low, ordered))))))
      ∙ moved (λ i. frame d (channels_of xs) (a + i)) (frame d (channels_of xs)) a (b - a) (λ i low. refl)

-- ---- the samples of a part
pub samples_are : (d : Decimator) (channels : List (List Bool)) (a b : ℕ) → a ≤ b → b ≤ frame_count d channels
    → slice_range (frames d channels) (a * length channels) (b * length channels) ≡ flat_map (frame d channels) (range_with_len a (b - a))
samples_are d channels a b ordered inside =
    slice_flat (frame d channels) (length channels) (λ j. length-map channels (λ bits. sample_at d bits j)) (range_with_len 0 (frame_count d channels)) a b ordered
    ∙ ap (flat_map (frame d channels)) (slice_of_range (frame_count d channels) a b inside)

pub sound_long : (file : List ℕ) (s : Sound) → s.start + s.size ≤ length file → length (sound_bytes file s) ≡ s.size
sound_long file s within = length-take-le s.size (drop s.start file) (omega (arith, within, length-drop s.start file))

-- a frame before the stop of a range is before the stop that it names
pub before_stop : (stop : Option ℕ) (total j : ℕ) → j < unwrap_or stop total → IfSome stop (λ n. j < n)
before_stop None total j low = tt
before_stop (Some n) total j low = low

-- two files that hold recordings with the same sound, whose bytes are the same wherever taps of a range's frames lie
module _ (d : Decimator) (s : Sound) (is : IsSound s) (whole : s.interleaving ≡ Bytes → s.count % 8 ≡ 0) (file other : List ℕ) (r t : Content) (has : HasSound file r s) (also : HasSound other t s) (range : WaveRange) where
  abbrev total : ℕ
  total = frame_count d r.channels

  counts : frame_count d t.channels ≡ frame_count d r.channels
  counts = ap (λ n. div_ceil n d.factor) (also.count ∙ sym has.count)

  pub inside_same : IsInside range (frame_count d r.channels) → IsInside range (frame_count d t.channels)
  inside_same inside = subst (IsInside range) (sym counts) inside

  pub pcm_same : IsInside range (frame_count d r.channels)
      → ((j i c : ℕ) → HasFrame range j → ReadsBit d j i → i < s.count → c < s.channels
      → slice_index (sound_bytes other s) (place_in s.interleaving s.channels c (i / 8)) ≡ slice_index (sound_bytes file s) (place_in s.interleaving s.channels c (i / 8)))
      → range_pcm t d range ≡ range_pcm r d range
  pcm_same inside same =
      let a = range.start in
      let b = stop_of range total in
      let number : length t.channels ≡ length r.channels = also.number ∙ sym has.number in
      let frames_are : flat_map (frame d t.channels) (range_with_len a (b - a)) ≡ flat_map (frame d r.channels) (range_with_len a (b - a))
      = ap (λ cs. flat_map (frame d cs) (range_with_len a (b - a))) also.channels
      ∙ frames_same d s is whole (sound_bytes file s) (sound_bytes other s) (sound_long file s has.in_file) (sound_long other s also.in_file) a b inside.0
      (λ j i c from before reads low few. same j i c (from, before_stop range.stop total j before) reads low few)
      ∙ ap (λ cs. flat_map (frame d cs) (range_with_len a (b - a))) (sym has.channels) in
      let samples : slice_range (frames d t.channels) (a * length t.channels) (b * length t.channels) ≡ slice_range (frames d r.channels) (a * length r.channels) (b * length r.channels)
      = samples_are d t.channels a b inside.0 (omega (arith, inside.1, counts)) ∙ frames_are ∙ sym (samples_are d r.channels a b inside.0 inside.1) in
      ap (λ n. part_pcm t d a (stop_of range n)) counts
      ∙ (λ k. record { channels = number k; rate = (also.rate ∙ sym has.rate) k / d.factor; width = d.width; samples = samples k })
