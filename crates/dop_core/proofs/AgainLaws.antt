-- What is written is read again.
use Rattle.std.proofs.Common.{◌≡◌, ◌≢◌, ℕ, ◌+◌, ◌-◌, ◌*◌, ◌/◌, ◌%◌, ◌^◌, ◌<◌, ◌≤◌, inl, inr, true, false, List, [], ◌++◌, drop, take, length, Some, Ok, Result, refl, sym, subst, ap, ap₂, ◌∙◌, arith, append-nil, append_assoc, eq-eqb, ne_eqb, length-append}
use Rattle.std.specs.Int.{div_ceil}
use Rattle.std.proofs.Math.Seq.{drop-append_seam}
use Rattle.std.proofs.lemmas.Bool.{cases_eq, le-ltb, lt-ltb}
use Rattle.std.proofs.lemmas.List.{drop-drop, length-replicate}
use Rattle.byteorder.specs.Endian.{little_number}
use Rattle.byteorder.specs.Numbers.{little_number-reads_back}
use Rattle.chunk_core.specs.declared.numbers.Order.TheVariants.{Little}
use Rattle.chunk_core.specs.Numbers.{bytes_of}
use Rattle.dsd_bits.specs.Ids.{same_id}
use Rattle.wave_core.specs.Sizes.{data_size, pad_size}
use Rattle.wave_core.specs.Texts.{data_head, format_chunk, pad_bytes, riff_head}
use Rattle.dop_core.specs.declared.fault.DopFault.{DopFault}
use Rattle.dop_core.specs.declared.head.DopHead.{DopHead}
use Rattle.dop_core.specs.Fields.{COUNT, DATA, FMT, channel_number, chunk_from, frame_rate, has_integers, is_integer, is_pcm_24, is_wave, next_of, size_at, u16_at, u64_at}
use Rattle.dop_core.specs.Reading.{checked, count_by, data_of, format_of, has_no_size, head_at, head_of, sized}
use Rattle.dop_core.specs.Writing.{count_chunk}
use Rattle.dop_core.proofs.ChunkLaws.{IsWalking, walk_begins, walk_ends, walk_finds, walk_on}

-- ---- a file that begins so
module _ (R n r D : ℕ) (rest : List ℕ) where
  abbrev front : List ℕ
  front = riff_head R ++ (format_chunk n r 24 ++ data_head D)

  abbrev file : List ℕ
  file = front ++ rest

  pub file_long : length file ≡ 68 + length rest
  file_long = let e : length front ≡ 68 = refl in omega (arith, e, length-append front rest)

  wave_again : is_wave file ≡ true
  unfolding is_wave
  wave_again = rw (le-ltb (length file) 12 (omega (arith, file_long))) refl

  size_again : size_at file 12 ≡ 40
  size_again = little_number-reads_back 4 40 (drop 20 file) (omega arith)

  next_again : next_of file 12 ≡ 60
  next_again = ap (λ m. 12 + 8 + m + m % 2) size_again

  format_again : chunk_from FMT file 12 ≡ Some 12
  format_again = sym (walk_finds FMT file 12 12 (walk_begins FMT file 12) (omega (arith, file_long)) refl)

  data_again : chunk_from DATA file 12 ≡ Some 60
  data_again =
      let on : IsWalking DATA file 12 60 = subst (IsWalking DATA file 12) next_again (walk_on DATA file 12 12 (walk_begins DATA file 12) (omega (arith, file_long)) refl) in
      sym (walk_finds DATA file 60 12 on (omega (arith, file_long)) refl)

  module _ (some : 1 ≤ n) (six : n ≤ 6) (low : 62500 ≤ r) (high : r ≤ 3125000) (small : D < 4294967295) (ends : D ≡ 0 → length rest ≡ 0) (there : D ≤ length rest) (whole : D % (3 * n) ≡ 0) where
    channels_are : channel_number file 12 ≡ n
    channels_are = little_number-reads_back 2 n (drop 24 file) (omega (arith, six))

    rate_is : frame_rate file 12 ≡ r
    rate_is = little_number-reads_back 4 r (drop 28 file) (omega (arith, high))

    align_is : u16_at file 32 ≡ n * 3
    align_is = little_number-reads_back 2 (n * 3) (drop 34 file) (omega (arith, six))

    pub sound_size : size_at file 60 ≡ D
    sound_size = little_number-reads_back 4 D (drop 68 file) (omega (arith, small))

    pcm_again : is_pcm_24 file 12 ≡ true
    unfolding is_pcm_24 has_integers is_integer
    pcm_again = rw (eq-eqb (u16_at file 32) (3 * channel_number file 12) (omega (arith, align_is, channels_are))) refl

    checked_again : checked file 12 ≡ Ok 12
    unfolding checked
    checked_again =
        rw (pcm_again, le-ltb (channel_number file 12) 1 (omega (arith, channels_are, some)), le-ltb 6 (channel_number file 12) (omega (arith, channels_are, six)), le-ltb (frame_rate file 12) 62500 (omega (arith, rate_is, low)), le-ltb 3125000 (frame_rate file 12) (omega (arith, rate_is, high))) refl

    has_size : has_no_size file 60 ≡ false
    has_size =
        let not_stream : size_at file 60 ≢ 4294967295 = λ e. omega (arith, e, sound_size, small) in
        elim (cases_eq (size_at file 60) 0) [
          | inl none ↦ rw (ne_eqb (size_at file 60) 4294967295 not_stream, eq-eqb (size_at file 60) 0 none, le-ltb 68 (length file) (omega (arith, file_long, ends (sym sound_size ∙ none)))) refl
          | inr more ↦ rw (ne_eqb (size_at file 60) 4294967295 not_stream, ne_eqb (size_at file 60) 0 more) refl
        ]

    sized_again : sized file 60 12 ≡ Ok (head_at file 60 12)
    unfolding sized
    sized_again =
        let parts : size_at file 60 % (3 * channel_number file 12) ≡ 0 = ap₂ (λ a b. a % (3 * b)) sound_size channels_are ∙ whole in
        rw (has_size, le-ltb (length file - 68) (size_at file 60) (omega (arith, file_long, sound_size, there)), eq-eqb (size_at file 60 % (3 * channel_number file 12)) 0 parts) refl

    before_again : format_of file 60 ≡ Ok 12
    unfolding format_of
    before_again = rw format_again refl

    found_again : data_of file ≡ Ok 60
    unfolding data_of
    found_again = rw (wave_again, data_again) refl

    -- what its header says
    pub head_again : head_of file ≡ Ok (record { rate = 16 * r; channels = n; start = 68; frames = D / (3 * n) })
    unfolding head_of
    head_again =
        rw (found_again, before_again, checked_again, sized_again)
        (λ j. let h : Result DopHead DopFault = Ok (record { rate = 16 * rate_is j; channels = channels_are j; start = 68; frames = sound_size j / (3 * channels_are j) }) in h)

-- ---- what follows the samples
module _ (R n r count : ℕ) (sound : List ℕ) where
  abbrev frames : ℕ
  frames = div_ceil count 16

  abbrev D : ℕ
  D = data_size n 24 frames

  abbrev pad : List ℕ
  pad = pad_bytes n 24 frames

  abbrev whole : List ℕ
  whole = (riff_head R ++ (format_chunk n r 24 ++ data_head D)) ++ (sound ++ (pad ++ count_chunk count))

  abbrev before : List ℕ
  before = (riff_head R ++ (format_chunk n r 24 ++ data_head D)) ++ (sound ++ pad)

  module _ (size : length sound ≡ D) (stated : size_at whole 60 ≡ D) (short : count < 2 ^ 36) where
    pad_long : length pad ≡ D % 2
    pad_long = length-replicate {A = ℕ} (pad_size n 24 frames) 0

    split : whole ≡ before ++ count_chunk count
    split =
        let front = riff_head R ++ (format_chunk n r 24 ++ data_head D) in
        ap (λ xs. front ++ xs) (sym (append_assoc sound pad (count_chunk count))) ∙ sym (append_assoc front (sound ++ pad) (count_chunk count))

    before_long : length before ≡ next_of whole 60
    before_long = omega (arith, file_long R n r D (sound ++ pad), length-append sound pad, size, pad_long, stated)

    rest_is : drop (next_of whole 60) whole ≡ count_chunk count
    rest_is = ap₂ drop (sym before_long) split ∙ drop-append_seam before (count_chunk count)

    whole_long : length whole ≡ next_of whole 60 + length (count_chunk count)
    whole_long = ap length split ∙ length-append before (count_chunk count) ∙ ap (λ m. m + length (count_chunk count)) before_long

    count_none : count % 16 ≡ 0 → count_by whole frames (chunk_from COUNT whole (next_of whole 60)) ≡ Ok count
    unfolding count_by
    count_none none =
        let at = next_of whole 60 in
        let nothing : count_chunk count ≡ [] = rw (eq-eqb (count % 16) 0 none) refl in
        let not_there = sym (walk_ends COUNT whole at at (walk_begins COUNT whole at) (omega (arith, whole_long, ap length nothing))) in
        let all : 16 * frames ≡ count = omega (arith, none) in
        ap (count_by whole frames) not_there ∙ ap (λ m. let r : Result ℕ DopFault = Ok m in r) all

    module _ (some : count % 16 ≢ 0) where
      abbrev chunk : List ℕ
      chunk = COUNT ++ (bytes_of Little 4 8 ++ bytes_of Little 8 count)

      chunk_is : count_chunk count ≡ chunk
      chunk_is = rw (ne_eqb (count % 16) 0 some) refl

      there : drop (next_of whole 60) whole ≡ chunk
      there = rest_is ∙ chunk_is

      later : (k : ℕ) → drop (next_of whole 60 + k) whole ≡ drop k chunk
      later k = sym (drop-drop k (next_of whole 60) whole) ∙ ap (drop k) there

      its_size : size_at whole (next_of whole 60) ≡ 8
      its_size = ap (λ xs. little_number 4 xs) (later 4)

      its_count : u64_at whole (next_of whole 60 + 8) ≡ count
      its_count = ap (λ xs. little_number 8 xs) (later 8 ∙ sym (append-nil (bytes_of Little 8 count))) ∙ little_number-reads_back 8 count [] (omega (arith, short))

      count_some : count_by whole frames (chunk_from COUNT whole (next_of whole 60)) ≡ Ok count
      unfolding count_by
      count_some =
          let at = next_of whole 60 in
          let sixteen : length chunk ≡ 16 = refl in
          let found : chunk_from COUNT whole at ≡ Some at = sym (walk_finds COUNT whole at at (walk_begins COUNT whole at) (omega (arith, whole_long, ap length chunk_is, sixteen)) (ap (λ xs. same_id (take 4 xs) COUNT) there)) in
          ap (count_by whole frames) found
          ∙ rw (le-ltb (size_at whole at) 8 (omega (arith, its_size)), le-ltb (length whole) (at + 16) (omega (arith, whole_long, ap length chunk_is, sixteen)), le-ltb (16 * frames) (u64_at whole (at + 8)) (omega (arith, its_count)), lt-ltb (16 * frames) (u64_at whole (at + 8) + 16) (omega (arith, its_count)))
          (ap (λ m. let r : Result ℕ DopFault = Ok m in r) its_count)

    pub count_again : count_by whole frames (chunk_from COUNT whole (next_of whole 60)) ≡ Ok count
    count_again = elim (cases_eq (count % 16) 0) [
      | inl none ↦ count_none none
      | inr some ↦ count_some some
    ]
