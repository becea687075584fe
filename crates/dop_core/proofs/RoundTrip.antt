-- The law of the round trip.
use Rattle.std.proofs.Common.{◌≡◌, ℕ, ◌+◌, ◌*◌, ◌/◌, ◌%◌, ◌^◌, ◌<◌, ◌≤◌, inl, inr, Bool, List, ◌++◌, length, Ok, Result, refl, ap, ◌∙◌, arith, eq-eqb, length-append}
use Rattle.std.specs.Int.{div_ceil}
use Rattle.std.proofs.lemmas.Bool.{cases_lt}
use Rattle.std.proofs.lemmas.List.{length-replicate}
use Rattle.std.proofs.lemmas.Nat.{div-mul-add, mod-mul-add, mul-le}
use Rattle.dsd_bits.specs.Channels.{IsLevel, count_of}
use Rattle.dsd_bits.specs.Contents.{Content}
use Rattle.dsd_bits.specs.Lacing.{laced}
use Rattle.native_core.specs.Native.{all_filled, dop_samples}
use Rattle.native_core.proofs.DopLaws.{dop_long}
use Rattle.wave_core.specs.Sizes.{data_size, pad_size}
use Rattle.wave_core.specs.Texts.{pad_bytes}
use Rattle.dop_core.specs.Laws.{WrittenReadAgain, bits_alone}
use Rattle.dop_core.specs.Reading.{as_fault, count_in, head_of, marked, recording_of}
use Rattle.dop_core.specs.Writing.{FitsDop, count_chunk, count_size, dop_riff_size, dop_tail, dop_text}
use Rattle.dop_core.specs.declared.fault.DopFault.{DopFault}
use Rattle.dop_core.specs.declared.head.DopHead.{DopHead}
use Rattle.dop_core.proofs.AgainLaws.{count_again, head_again, sound_size}
use Rattle.dop_core.proofs.FileLaws.{count_long}
use Rattle.dop_core.proofs.SampleLaws.{all_marked, channels_again, laced_size}

module _ (rate : ℕ) (channels : List (List Bool)) (low : 1000000 ≤ rate) (high : rate ≤ 50000000) (divided : rate % 16 ≡ 0) (some : 1 ≤ length channels) (six : length channels ≤ 6) (level : IsLevel channels) (fits : FitsDop (length channels) (count_of channels)) where
  abbrev n : ℕ
  n = length channels

  abbrev count : ℕ
  count = count_of channels

  abbrev frames : ℕ
  frames = div_ceil count 16

  abbrev R : ℕ
  R = dop_riff_size n count

  abbrev D : ℕ
  D = data_size n 24 frames

  abbrev bytes : List ℕ
  bytes = laced (all_filled 16 channels)

  abbrev sound : List ℕ
  sound = dop_samples n bytes

  abbrev tail : List ℕ
  tail = dop_tail n count

  abbrev rest : List ℕ
  rest = sound ++ tail

  abbrev file : List ℕ
  file = dop_text rate channels

  grouped : 2 * frames * n ≡ 2 * (frames * n)
  grouped = grind arith

  sound_long : length sound ≡ D
  sound_long =
      let thrice : frames * (n * 3) ≡ frames * n * 3 = grind arith in
      dop_long n bytes ∙ omega (arith, laced_size channels some level, grouped, thrice)

  times : D ≡ frames * (3 * n) + 0
  times = let three : frames * (n * 3) ≡ frames * (3 * n) = grind arith in omega (arith, three)

  small : D < 4294967295
  small = omega (arith, fits)

  few : count < 2 ^ 36
  few =
      let most : frames * (1 * 3) ≤ frames * (n * 3) = mul-le frames (1 * 3) frames (n * 3) (omega arith) (omega (arith, some)) in
      omega (arith, most, small)

  ends : D ≡ 0 → length rest ≡ 0
  ends none = elim (cases_lt 0 frames) [
    | inl more ↦ (
        let one : 1 * (n * 3) ≤ frames * (n * 3) = mul-le 1 (n * 3) frames (n * 3) (omega (arith, more)) (omega arith) in
        absurd (omega (arith, one, none, some)))
    | inr zero_frames ↦ (
        let no_bits : count % 16 ≡ 0 = omega (arith, zero_frames) in
        let no_chunk : count_size count ≡ 0 = rw (eq-eqb (count % 16) 0 no_bits) refl in
        omega (arith, length-append sound tail, length-append (pad_bytes n 24 frames) (count_chunk count), sound_long, none, length-replicate {A = ℕ} (pad_size n 24 frames) 0, count_long count, no_chunk))
  ]

  there : D ≤ length rest
  there = omega (arith, length-append sound tail, sound_long)

  whole : D % (3 * n) ≡ 0
  whole = ap (λ m. m % (3 * n)) times ∙ mod-mul-add frames (3 * n) 0 (omega (arith, some))

  frames_are : D / (3 * n) ≡ frames
  frames_are = ap (λ m. m / (3 * n)) times ∙ div-mul-add frames (3 * n) 0 (omega (arith, some))

  abbrev head : DopHead
  head = record { rate = rate; channels = n; start = 68; frames = frames }

  low_rate : 62500 ≤ rate / 16
  low_rate = omega (arith, low)

  high_rate : rate / 16 ≤ 3125000
  high_rate = omega (arith, high)

  head_is : head_of file ≡ Ok head
  head_is =
      let same : 16 * (rate / 16) ≡ rate = omega (arith, divided) in
      head_again R n (rate / 16) D rest some six low_rate high_rate small ends there whole
      ∙ (λ j. let h : Result DopHead DopFault = Ok (record { rate = same j; channels = n; start = 68; frames = frames_are j }) in h)

  marked_is : marked head rest ≡ Ok tt
  marked_is = ap as_fault (all_marked n bytes tail some (frames * n) (omega (arith, laced_size channels some level, grouped)))

  count_is : count_in file head ≡ Ok count
  count_is = count_again R n (rate / 16) count sound sound_long (sound_size R n (rate / 16) D rest some six low_rate high_rate small ends there whole) few

  pub read_again : recording_of file ≡ Ok (bits_alone rate channels)
  unfolding recording_of
  read_again = rw (head_is, marked_is, count_is) (ap (λ (cs : List (List Bool)). let r : Result Content DopFault = Ok (record (bits_alone rate channels) { channels = cs }) in r) (channels_again channels some level tail))

pub written_again : WrittenReadAgain
written_again rate channels limits divided some six level fits = read_again rate channels limits.0 limits.1 divided some six level fits
