-- Frames whose places are in a prefix of the sound are due, and how many bytes they are.
use Rattle.std.proofs.Common.{◌≡◌, ℕ, ◌+◌, ◌-◌, ◌*◌, ◌/◌, ◌%◌, ◌<◌, ◌≤◌, inl, inr, min, List, length, refl, sym, subst, ap, ◌∙◌, arith}
use Rattle.std.specs.Int.{div_ceil}
use Rattle.std.proofs.Math.Nat.{div-add-mod', mul-le-mul_right, mul_assoc}
use Rattle.std.proofs.lemmas.Bool.{cases_lt}
use Rattle.std.proofs.lemmas.Grind.{div_ceil_times}
use Rattle.std.proofs.lemmas.List.{length-map}
use Rattle.std.proofs.lemmas.List.FromFn.{length-map-range_with_len}
use Rattle.std.proofs.lemmas.Nat.{le-div, mod_below}
use Rattle.dsd_bits.specs.declared.interleaving.Interleaving.{Interleaving}
use Rattle.dsd_bits.specs.declared.interleaving.Interleaving.TheVariants.{Bytes, Blocks}
use Rattle.dsd_bits.specs.declared.sound.Sound.{Sound}
use Rattle.dsd_bits.specs.Sounds.{IsSound, sound_size}
use Rattle.fir_core.specs.Decimator.{Decimator, sample_at}
use Rattle.fir_core.specs.Streams.{bits_held}
use Rattle.wave_core.proofs.SizeLaws.{length_of_samples}
use Rattle.player_core.specs.Due.{bytes_known, channel_bits, channels_known, due_bytes, frames_due}
use Rattle.player_core.specs.Frames.{frame, frames_below}
use Rattle.player_core.specs.Groups.{part_size, place_in}
use Rattle.player_core.proofs.SampleLaws.{length-frames}
use Rattle.player_core.specs.Pace.{IsWithinBytes}

-- ---- the group of a byte, and one more, end in the sound
module _ (c part wholes count u i : ℕ) (six : c + 1 ≤ 6) (some : 1 ≤ part) (few : part ≤ 4096) (all : u ≤ wholes * ((c + 1) * part)) (bits : 8 * (wholes * part) < count + 8 * part)
    (stands : (i / 8 / part * (c + 1) + c) * part + i / 8 % part < u - 65536) where
  group : ℕ
  group = (c + 1) * part

  q : ℕ
  q = i / 8 / part

  group_is : group ≡ c * part + part
  unfolding group
  group_is = grind arith

  small : group ≤ 24576
  unfolding group
  small = omega (arith, mul-le-mul_right part six, few)

  place_is : (q * (c + 1) + c) * part ≡ q * group + c * part
  unfolding group
  place_is = grind arith

  reaches : q * group + (group + group) < u
  unfolding q
  reaches = omega (arith, stands, place_is, group_is, small, few)

  inside : q + 2 ≤ wholes
  unfolding group
  inside = elim (cases_lt wholes (q + 2)) [
    | inl less ↦ (let most : wholes * group ≤ (q + 1) * group = mul-le-mul_right group (omega (arith, less)) in
        let spread : (q + 1) * group ≡ q * group + group = grind arith in
        absurd (omega (arith, most, spread, reaches, all)))
    | inr more ↦ more
  ]

  parts : q * part + (part + part) ≤ wholes * part
  parts =
      let most : (q + 2) * part ≤ wholes * part = mul-le-mul_right part inside in
      let spread : (q + 2) * part ≡ q * part + (part + part) = grind arith in
      omega (arith, most, spread)

  below : i / 8 < q * part + part
  unfolding q
  below = omega (arith, div-add-mod' (i / 8) part, mod_below (i / 8) part (omega (arith, some)))

  pub in_count : i < count
  in_count = omega (arith, below, parts, bits)

  known_part : q * part + part ≤ u / ((c + 1) * part) * part
  unfolding group
  known_part =
      let spread : (q + 1) * group ≡ q * group + group = grind arith in
      let positive : 0 < group = omega (arith, group_is, some) in
      let most : (q + 1) * part ≤ u / group * part = mul-le-mul_right part (le-div (q + 1) u group positive (omega (arith, spread, reaches))) in
      let parted : (q + 1) * part ≡ q * part + part = grind arith in
      omega (arith, most, parted)

  pub is_known : i < min (8 * min (div_ceil count 8) (u / ((c + 1) * part) * part)) count
  is_known = omega (arith, in_count, below, known_part)

-- ---- places of a sound
one_less : (n : ℕ) → 1 ≤ n → (c : ℕ) × (n ≡ c + 1)
one_less n some = (n - 1, omega (arith, some))

module _ (s : Sound) (is : IsSound s) (u i : ℕ) (within : u ≤ s.size) (stands : IsWithinBytes s (u - 65536) i) where
  -- its bits are known, and it is one of them
  pub place_known : i < bits_held s.count (bytes_known s u)
  place_known =
      let one = one_less s.channels is.some_channel in
      by s.interleaving one.0 one.1 (subst (λ n. n ≤ sound_size s.interleaving s.channels s.count) refl (omega (arith, within, is.size))) (stands one.0 (omega (arith, one.1)))
    where
      by : (o : Interleaving) (c : ℕ) → s.channels ≡ c + 1 → u ≤ sound_size o s.channels s.count → place_in o s.channels c (i / 8) < u - 65536
          → i < min (8 * min (div_ceil s.count 8) (u / (s.channels * part_size o) * part_size o)) s.count
      by Bytes c number few at =
          let size : s.count / 8 * s.channels ≡ s.count / 8 * ((c + 1) * 1) = rw number (grind arith) in
          let place : (i / 8 / 1 * (c + 1) + c) * 1 + i / 8 % 1 < u - 65536 = subst (λ n. (i / 8 / 1 * n + c) * 1 + i / 8 % 1 < u - 65536) number at in
          subst (λ n. i < min (8 * min (div_ceil s.count 8) (u / (n * 1) * 1)) s.count) (sym number)
          (is_known c 1 (s.count / 8) s.count u i (omega (arith, number, is.six_channels)) (omega arith) (omega arith) (omega (arith, few, size)) (omega arith) place)
      by (Blocks o) c number few at =
          let groups = div_ceil s.count 32768 in
          let size : groups * s.channels * 4096 ≡ groups * ((c + 1) * 4096) = rw number (mul_assoc groups (c + 1) 4096) in
          let place : (i / 8 / 4096 * (c + 1) + c) * 4096 + i / 8 % 4096 < u - 65536 = subst (λ n. (i / 8 / 4096 * n + c) * 4096 + i / 8 % 4096 < u - 65536) number at in
          subst (λ n. i < min (8 * min (div_ceil s.count 8) (u / (n * 4096) * 4096)) s.count) (sym number)
          (is_known c 4096 groups s.count u i (omega (arith, number, is.six_channels)) (omega arith) (omega arith) (omega (arith, few, size)) (omega arith) place)

-- ---- numbers of frames
pub some_more : (j n factor : ℕ) → 0 < factor → j * factor < n → j < div_ceil n factor
some_more j n factor some less = elim (cases_lt j (div_ceil n factor)) [
  | inl is ↦ is
  | inr most ↦ (let all : div_ceil n factor * factor ≤ j * factor = mul-le-mul_right factor most in absurd (omega (arith, all, (div_ceil_times n factor some).0, less)))
]

module _ (d : Decimator) (s : Sound) (is : IsSound s) (least : 8 ≤ d.factor) (u j : ℕ) (within : u ≤ s.size) (stands : IsWithinBytes s (u - 65536) (j * d.factor + d.delay)) where
  place : j * d.factor + d.delay < bits_held s.count (bytes_known s u)
  place = place_known s is u (j * d.factor + d.delay) within stands

  pub frame_due : j < frames_due d s u
  frame_due = some_more j (bits_held s.count (bytes_known s u) - d.delay) d.factor (omega (arith, least)) (omega (arith, place))

-- ---- their bytes
pub length-due : (d : Decimator) (s : Sound) (bytes : List ℕ) → length (due_bytes d s bytes) ≡ frames_due d s (length bytes) * (s.channels * (d.width / 8))
length-due d s bytes =
    let channels = channels_known s bytes in
    let n = frames_due d s (length bytes) in
    let number : length channels ≡ s.channels = length-map-range_with_len (channel_bits s bytes) 0 s.channels in
    let samples : length (frames_below d channels n) ≡ n * s.channels
    = length-frames (frame d channels) (length channels) 0 n (λ j. length-map channels (λ bits. sample_at d bits j)) ∙ ap (λ m. n * m) number in
    length_of_samples d.width (frames_below d channels n)
    ∙ ap (λ k. k * (d.width / 8)) samples
    ∙ mul_assoc n s.channels (d.width / 8)
