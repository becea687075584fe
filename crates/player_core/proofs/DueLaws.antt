-- What is due after more sound bytes, and after all of them.
use Rattle.std.proofs.Common.{◌≡◌, ℕ, ◌+◌, ◌*◌, ◌/◌, ◌<◌, ◌≤◌, min, List, ◌++◌, length, sym, ap, ap₂, ◌∙◌, arith, length-append}
use Rattle.std.specs.List.{flat_map, range_with_len}
use Rattle.std.specs.Int.{div_ceil}
use Rattle.std.proofs.lemmas.Grind.{flat_map-append}
use Rattle.std.proofs.lemmas.Nat.{div-mul-add}
use Rattle.std.proofs.lemmas.Simd.{map-map}
use Rattle.dsd_bits.specs.declared.sound.Sound.{Sound}
use Rattle.dsd_bits.proofs.LacingLemmas.{map_range_same}
use Rattle.fir_core.specs.Decimator.{Decimator, sample_at}
use Rattle.dsd_bits.specs.Packing.{unpacked}
use Rattle.fir_core.specs.Streams.{due_number, bits_held}
use Rattle.wave_core.specs.Texts.{sample_bytes}
use Rattle.player_core.specs.Due.{bytes_known, channel_bits, channel_bytes, channels_known, due_bytes, frames_due}
use Rattle.player_core.specs.Frames.{frame, frames_below}
use Rattle.player_core.specs.Groups.{channel_part, group_size, part_size}
use Rattle.player_core.proofs.FeedLaws.{part_of_prefix, sample_stays}
use Rattle.player_core.proofs.FrameLaws.{in_two, moved}

-- ---- what follows the last whole group is not read
module _ (s : Sound) (prefix rest : List ℕ) (k : ℕ) (long : length prefix ≡ k * group_size s.interleaving s.channels) (part : length rest < group_size s.interleaving s.channels) where
  pub whole : length (prefix ++ rest) / group_size s.interleaving s.channels ≡ k
  whole =
      ap (λ n. n / group_size s.interleaving s.channels) (length-append prefix rest ∙ ap (λ n. n + length rest) long) ∙ div-mul-add k (group_size s.interleaving s.channels) (length rest) part

  whole_prefix : length prefix / group_size s.interleaving s.channels ≡ k
  whole_prefix =
      let more : k * group_size s.interleaving s.channels ≡ k * group_size s.interleaving s.channels + 0 = omega arith in
      ap (λ n. n / group_size s.interleaving s.channels) (long ∙ more) ∙ div-mul-add k (group_size s.interleaving s.channels) 0 (omega (arith, part))

  pub read_of_prefix : bytes_known s (length (prefix ++ rest)) ≡ bytes_known s (length prefix)
  read_of_prefix = ap (λ n. min (div_ceil s.count 8) (n * part_size s.interleaving)) (whole ∙ sym whole_prefix)

  pub bytes_of_prefix : (c : ℕ) → c < s.channels → channel_bytes s (prefix ++ rest) c ≡ channel_bytes s prefix c
  bytes_of_prefix c low =
      part_of_prefix s.interleaving s.channels prefix rest c k (bytes_known s (length (prefix ++ rest))) low long
      (let e = ap (λ n. n * part_size s.interleaving) whole in omega (arith, e))
      ∙ ap (channel_part s.interleaving s.channels prefix c 0) read_of_prefix

  bits_of_prefix : (c : ℕ) → c < s.channels → channel_bits s (prefix ++ rest) c ≡ channel_bits s prefix c
  bits_of_prefix c low = ap₂ (λ bs n. unpacked bs (bits_held s.count n)) (bytes_of_prefix c low) read_of_prefix

  channels_of_prefix : channels_known s (prefix ++ rest) ≡ channels_known s prefix
  channels_of_prefix = map_range_same s.channels (channel_bits s (prefix ++ rest)) (channel_bits s prefix) bits_of_prefix

  pub due_of_prefix : (d : Decimator) → due_bytes d s (prefix ++ rest) ≡ due_bytes d s prefix
  due_of_prefix d =
      ap₂ (λ channels n. flat_map (sample_bytes d.width) (frames_below d channels (due_number d s.count n))) channels_of_prefix read_of_prefix

-- ---- more whole groups
module _ (d : Decimator) (s : Sound) (fed number : ℕ) (prefix groups : List ℕ) (k : ℕ) (long : length prefix ≡ k * group_size s.interleaving s.channels)
    (was : bytes_known s (length prefix) ≡ fed) (is : bytes_known s (length (prefix ++ groups)) ≡ fed + number) (least : 8 ≤ d.factor) where
  abbrev all : List ℕ
  all = prefix ++ groups

  frame_stays : (j : ℕ) → j < frames_due d s (length prefix) → frame d (channels_known s all) j ≡ frame d (channels_known s prefix) j
  frame_stays j h =
      map-map (λ bits. sample_at d bits j) (channel_bits s all) (range_with_len 0 s.channels)
      ∙ map_range_same s.channels (λ c. sample_at d (channel_bits s all c) j) (λ c. sample_at d (channel_bits s prefix c) j) (λ c low. sample_stays d s fed number prefix groups k c low long was is least j h)
      ∙ sym (map-map (λ bits. sample_at d bits j) (channel_bits s prefix) (range_with_len 0 s.channels))

  pub due_next : (n m : ℕ) → n ≡ frames_due d s (length prefix) → n + m ≡ frames_due d s (length all)
      → due_bytes d s all ≡ due_bytes d s prefix ++ flat_map (sample_bytes d.width) (flat_map (frame d (channels_known s all)) (range_with_len n m))
  due_next n m first whole =
      let bytes = flat_map (sample_bytes d.width) in
      let old = flat_map (frame d (channels_known s all)) (range_with_len 0 n) in
      let new = flat_map (frame d (channels_known s all)) (range_with_len n m) in
      let stays : old ≡ frames_below d (channels_known s prefix) n =
      moved (frame d (channels_known s all)) (frame d (channels_known s prefix)) 0 n (λ i h. let place : 0 + i ≡ i = omega arith in frame_stays i (omega arith) ∙ ap (frame d (channels_known s prefix)) (sym place)) in
      ap (λ i. bytes (frames_below d (channels_known s all) i)) (sym whole)
      ∙ ap bytes (in_two (frame d (channels_known s all)) n m)
      ∙ flat_map-append (sample_bytes d.width) old new
      ∙ ap (λ xs. bytes xs ++ bytes new) (stays ∙ ap (frames_below d (channels_known s prefix)) first)
