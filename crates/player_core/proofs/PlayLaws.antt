-- What is played of a file whose sound came to a sink, or some of it.
use Rattle.std.proofs.Common.{◌≡◌, ℕ, ◌+◌, ◌-◌, ◌*◌, ◌/◌, ◌%◌, ◌<◌, ◌≤◌, min, inl, inr, List, ◌++◌, length, take, drop, slice_range, Option, None, Some, IfSome, sym, subst, ap, ap₂, ◌∙◌, arith, append_assoc, append-nil, length-append, length-take, length-drop, one-mul, zero-mul, ℤ, [], ◌∷◌}
use Rattle.std.specs.List.{flat_map}
use Rattle.std.specs.Int.{div_ceil}
use Rattle.std.proofs.Math.Nat.{mul-le-mul_right, mul_assoc}
use Rattle.std.proofs.Math.Seq.{drop-append_seam, take-append_seam}
use Rattle.std.proofs.lemmas.Bool.{cases_lt}
use Rattle.std.proofs.lemmas.Grind.{div_ceil_times}
use Rattle.std.proofs.lemmas.List.{drop-append-le, length-map, take_all}
use Rattle.dsd_bits.specs.Contents.{Content}
use Rattle.dsd_bits.specs.declared.interleaving.Interleaving.TheVariants.{Bytes}
use Rattle.dsd_bits.specs.declared.sound.Sound.{Sound}
use Rattle.dsd_bits.specs.Sounds.{HasSound, IsSound, sound_bytes}
use Rattle.dsd_bits.proofs.PackingLemmas.{length-slice_range}
use Rattle.fir_core.specs.Decimator.{Decimator, sample_at}
use Rattle.fir_core.proofs.TileLaws.{below_ceil}
use Rattle.wave_core.specs.Contents.{Pcm}
use Rattle.wave_core.specs.Laws.{PartsJoin}
use Rattle.wave_core.specs.Heads.{FitsIn, header_in, limit_of, size_in, text_in}
use Rattle.wave_core.specs.Sizes.{block_align}
use Rattle.wave_core.specs.Texts.{pad_bytes, sample_bytes}
use Rattle.wave_core.specs.declared.head.WaveHead.{WaveHead}
use Rattle.player_core.specs.Due.{all_bytes}
use Rattle.player_core.specs.Frames.{frame, frame_count, frames}
use Rattle.player_core.specs.Laws.{total_frames}
use Rattle.player_core.specs.Playing.{Applies, IsLackedBySome, IsOutsideOf, OnlyFromOutsideBy, PartIsPlayed, PlaysBy, WholeIsAll, WritesPrefix, part_pcm, range_pcm}
use Rattle.player_core.specs.Parts.{frames_sound, part_bytes, part_file}
use Rattle.player_core.specs.Ranges.{IsInside, number_of, stop_of, whole_range}
use Rattle.player_core.specs.Samples.{pcm}
use Rattle.player_core.specs.Sinks.{range_file}
use Rattle.player_core.specs.Wave.{wave_file_size}
use Rattle.player_core.specs.declared.range.WaveRange.{WaveRange}
use Rattle.sound_core.specs.Faults.{IsFromOutside}
use Rattle.sound_core.specs.Files.{HoldsRecording, LeadsToSound}
use Rattle.sound_core.specs.Outlines.{AreStated, IsPlacedIn, Surroundings, with_sound}
use Rattle.sound_core.specs.Sinks.{BeginsSound}
use Rattle.sound_core.specs.declared.fault.StreamFault.{StreamFault}
use Rattle.sound_core.specs.declared.fault.StreamFault.TheVariants.{FileRefused, RateNotDivided, TooLarge, ReadFailed, WriteFailed, TurnLimit, Memory}
use Rattle.sound_core.proofs.ReadLaws.{whole_is}
use Rattle.sound_core.proofs.SameLaws.{holds_in}
use Rattle.player_core.proofs.PartLaws.{less_times}
use Rattle.player_core.proofs.PieceLaws.{prefix_nil}
use Rattle.player_core.proofs.PlaceLaws.{some_more}
use Rattle.player_core.proofs.SampleLaws.{length-frames}
use Rattle.player_core.proofs.SliceLaws.{slice_flat}
use Rattle.player_core.proofs.SoundLaws.{file_has_size, frames_fill}
use Rattle.wave_core.proofs.SizeLaws.{length_of_samples}

-- ---- as many frames as a part has, as a sound
pub frames_number : (d : Decimator) (s : Sound) (number : ℕ) → 0 < d.factor → number ≤ total_frames d s → total_frames d (frames_sound d s number) ≡ number
frames_number d s number some inside =
    let count = min (number * d.factor) s.count in
    let up = div_ceil_times count d.factor some in
    let most : div_ceil count d.factor ≤ number = elim (cases_lt number (div_ceil count d.factor)) [
      | inl above ↦ absurd (omega (arith, below_ceil number count d.factor some above))
      | inr within ↦ within
    ] in
    let least : number ≤ div_ceil count d.factor = elim (cases_lt (div_ceil count d.factor) number) [
      | inl below ↦
          let last : number - 1 + 1 ≡ number = omega arith in
          let spread : (number - 1 + 1) * d.factor ≡ (number - 1) * d.factor + d.factor = grind arith in
          let same : (number - 1 + 1) * d.factor ≡ number * d.factor = ap (λ n. n * d.factor) last in
          let before : (number - 1) * d.factor < s.count = below_ceil (number - 1) s.count d.factor some (omega (arith, below, inside)) in
          let one = some_more (number - 1) count d.factor some (omega (arith, before, spread, same, some)) in
          absurd (omega (arith, one, below))
      | inr enough ↦ enough
    ] in
    omega (arith, most, least)

-- ---- the text of a part
module _ (d : Decimator) (start stop : ℕ) (ordered : start ≤ stop) where
  module _ (s : Sound) (is : IsSound s) (whole : s.interleaving ≡ Bytes → s.count % 8 ≡ 0) (inside : stop ≤ total_frames d s) (bytes : List ℕ) (all : length bytes ≡ s.size) where
    pub part_long : length (part_bytes d s bytes start stop) ≡ (stop - start) * block_align s.channels d.width
    part_long =
        let align = block_align s.channels d.width in
        let most : stop * align ≤ total_frames d s * align = mul-le-mul_right align inside in
        length-slice_range (all_bytes d s bytes) (start * align) (stop * align) (omega (arith, most, frames_fill d s bytes is whole all))
        ∙ sym (less_times stop start align)

    pub part_size : (head : WaveHead) → 0 < d.factor → length (part_file head d s start stop bytes) ≡ wave_file_size head d (frames_sound d s (stop - start))
    part_size head some =
        let number = frames_number d s (stop - start) some (omega (arith, inside)) in
        file_has_size head d (frames_sound d s (stop - start)) (part_bytes d s bytes start stop) (part_long ∙ ap (λ n. n * block_align s.channels d.width) (sym number))

pub part_is_played : PartsJoin → PartIsPlayed
part_is_played law file r s head d start stop has is whole least ordered inside =
    let channels = length r.channels in
    let w = d.width / 8 in
    let total : frame_count d r.channels ≡ total_frames d s = ap (λ k. div_ceil k d.factor) has.count in
    let frame_long : (j : ℕ) → length (frame d r.channels j) ≡ channels = λ j. length-map r.channels (λ bits. sample_at d bits j) in
    let samples_long : length (frames d r.channels) ≡ frame_count d r.channels * channels = length-frames (frame d r.channels) channels 0 (frame_count d r.channels) frame_long in
    let within : stop * channels ≤ frame_count d r.channels * channels = mul-le-mul_right channels (omega (arith, inside, total)) in
    let long : length (part_pcm r d start stop).samples ≡ (stop - start) * channels =
    length-slice_range (frames d r.channels) (start * channels) (stop * channels) (omega (arith, within, samples_long)) ∙ sym (less_times stop start channels) in
    let joined = law head (part_pcm r d start stop) (stop - start) (omega (arith, has.number, is.some_channel)) long in
    let number = frames_number d s (stop - start) (omega (arith, least)) (omega (arith, inside)) in
    let sb : List ℤ → List ℕ = flat_map (sample_bytes d.width) in
    let sliced : sb (part_pcm r d start stop).samples ≡ slice_range (sb (frames d r.channels)) (start * channels * w) (stop * channels * w) =
    sym (slice_flat (sample_bytes d.width) w (λ z. sym (ap length (append-nil (sample_bytes d.width z))) ∙ length_of_samples d.width (z ∷ []) ∙ one-mul w) (frames d r.channels) (start * channels) (stop * channels) (mul-le-mul_right channels ordered)) in
    let bytes : sb (part_pcm r d start stop).samples ≡ part_bytes d s (sound_bytes file s) start stop =
    sliced
    ∙ ap₂ (λ m n. slice_range (sb (frames d r.channels)) m n) (mul_assoc start channels w) (mul_assoc stop channels w)
    ∙ ap (λ cs. slice_range (sb (frames d cs)) (start * (channels * w)) (stop * (channels * w))) has.channels
    ∙ ap (λ c. slice_range (all_bytes d s (sound_bytes file s)) (start * (c * w)) (stop * (c * w))) has.number in
    let size = ap (λ c. size_in head c d.width (stop - start)) has.number in
    let parts : part_file head d s start stop (sound_bytes file s) ≡ header_in head channels (r.rate / d.factor) d.width (stop - start) ++ (sb (part_pcm r d start stop).samples ++ pad_bytes channels d.width (stop - start)) =
    ap (λ n. header_in head s.channels (s.rate / d.factor) d.width n ++ (part_bytes d s (sound_bytes file s) start stop ++ pad_bytes s.channels d.width n)) number
    ∙ ap (λ xs. header_in head s.channels (s.rate / d.factor) d.width (stop - start) ++ (xs ++ pad_bytes s.channels d.width (stop - start))) (sym bytes)
    ∙ ap₂ (λ c k. header_in head c (k / d.factor) d.width (stop - start) ++ (sb (part_pcm r d start stop).samples ++ pad_bytes c d.width (stop - start))) (sym has.number) (sym has.rate) in
    record {
      whole = λ fits. joined.whole (omega (arith, fits, size)) ∙ ap (λ xs. Some xs) (sym parts);
      too_large = λ large. joined.too_large (omega (arith, large, size));
    }

-- ---- all frames
whole_samples : (r : Content) (d : Decimator) → range_pcm r d whole_range ≡ pcm r d
whole_samples r d =
    let c = length r.channels in
    let n = frame_count d r.channels in
    let long : length (frames d r.channels) ≡ n * c = length-frames (frame d r.channels) c 0 n (λ j. length-map r.channels (λ bits. sample_at d bits j)) in
    let none : 0 * c ≡ 0 = zero-mul c in
    let rest : n * c - 0 * c ≡ n * c = omega (arith, none) in
    let all : slice_range (frames d r.channels) (0 * c) (n * c) ≡ frames d r.channels = ap₂ (λ m k. take m (drop k (frames d r.channels))) rest none ∙ take_all (n * c) (frames d r.channels) (omega (arith, long)) in
    ap (λ (zs : List ℤ). (let p : Pcm = record { channels = c; rate = r.rate / d.factor; width = d.width; samples = zs } in p)) all

whole_lacked : (d : Decimator) → IsLackedBySome d whole_range → ⊥
whole_lacked d lacked = elim lacked.1 [
  | inl turned ↦ omega (arith, turned)
  | inr past ↦ omega (arith, past)
]

whole_inside : (d : Decimator) (file : List ℕ) → IsOutsideOf d whole_range file → ⊥
whole_inside d file stands = whole_lacked d (stands.sound, stands.outside)

pub whole_is_all : WholeIsAll
whole_is_all = record { samples = whole_samples; inside = whole_inside; lacked = whole_lacked }

-- ---- of a file that begins with the prefix of one
module _ (law : PartIsPlayed) (d : Decimator) (least : 8 ≤ d.factor) (range : WaveRange) where
  module _ (prefix : List ℕ) (s : Sound) (states : LeadsToSound prefix s) where
    abbrev ahead : List ℕ
    ahead = drop s.start prefix

    abbrev stop : ℕ
    stop = stop_of range (total_frames d s)

    sound_at : (left : List ℕ) → sound_bytes (prefix ++ left) s ≡ take s.size (ahead ++ left)
    sound_at left = ap (take s.size) (drop-append-le s.start prefix left states.within)

    size_at : (left : List ℕ) → length (prefix ++ left) ≡ s.start + length (ahead ++ left)
    size_at left = omega (arith, length-append prefix left, length-append ahead left, length-drop s.start prefix, states.within)

    -- what a file that begins so plays
    pub record IsWhole (left bytes : List ℕ) : Type 0 where
      pub divided : s.rate % d.factor ≡ 0
      pub inside : IsInside range (total_frames d s)
      pub enough : s.size ≤ length (ahead ++ left)
      pub is : bytes ≡ range_file d s range (take s.size (ahead ++ left))

    pub text_of : (left bytes : List ℕ) → PlaysBy d range (prefix ++ left) bytes → IsWhole left bytes
    text_of left bytes plays =
        let r = plays.recording in
        let has : HasSound (prefix ++ left) r s = states.has left r plays.file_holds in
        let total : frame_count d r.channels ≡ total_frames d s = ap (λ k. div_ceil k d.factor) has.count in
        let inside : IsInside range (total_frames d s) = subst (IsInside range) total plays.inside in
        let text : text_in range.head (part_pcm r d range.start stop) ≡ Some bytes = subst (λ n. text_in range.head (part_pcm r d range.start (stop_of range n)) ≡ Some bytes) total plays.text in
        let played = law (prefix ++ left) r s range.head d range.start stop has states.is_sound states.whole least inside.0 inside.1 in
        record {
          divided = subst (λ n. n % d.factor ≡ 0) has.rate plays.rate_divided;
          inside = inside;
          enough = omega (arith, has.in_file, size_at left);
          is = elim (cases_lt (size_in range.head s.channels d.width (stop - range.start)) (limit_of range.head)) [
            | inl fits ↦ (let both : Some bytes ≡ Some (range_file d s range (sound_bytes (prefix ++ left) s)) = sym text ∙ played.whole fits in same both ∙ ap (range_file d s range) (sound_at left))
            | inr large ↦ (let both : Some bytes ≡ None = sym text ∙ played.too_large large in absurd cc)
          ];
        }
      where
        same : {xs ys : List ℕ} → Some xs ≡ Some ys → xs ≡ ys
        same e = cc

  -- ---- of which some bytes of the sound came
  pub record IsText (s : Sound) (came bytes : List ℕ) : Type 0 where
    pub rest : List ℕ
    pub long : length (came ++ rest) ≡ s.size
    pub is : bytes ≡ range_file d s range (came ++ rest)

  pub text_came : (s : Sound) (came file bytes : List ℕ) → BeginsSound s came file → length came ≤ s.size → PlaysBy d range file bytes → IsText s came bytes
  text_came s came file bytes begins few plays =
      let ahead = drop s.start begins.prefix in
      let rest = take (s.size - length came) begins.more in
      let text = text_of begins.prefix s begins.states begins.rest bytes (subst (λ f. PlaysBy d range f bytes) begins.file_is plays) in
      let whole : take s.size (ahead ++ begins.rest) ≡ came ++ rest = ap (take s.size) begins.sound_is ∙ whole_is s.size came begins.more ∙ ap (λ zs. zs ++ take (s.size - length zs) begins.more) (take_all s.size came few) in
      record {
        rest = rest;
        long = ap length (sym whole) ∙ omega (arith, length-take s.size (ahead ++ begins.rest), text.enough);
        is = text.is ∙ ap (range_file d s range) whole;
      }

-- ---- whose whole sound came
module _ (o : Surroundings) (stated : AreStated o) (file sound : List ℕ) (stands : IsPlacedIn o file sound) where
  abbrev after : List ℕ
  after = stands.gap ++ (o.back ++ stands.rest)

  own : (xs : List ℕ) → drop o.sound.start (o.head ++ xs) ≡ xs
  own xs = ap (λ n. drop n (o.head ++ xs)) stated.start ∙ drop-append_seam o.head xs

  pub begins_held : (more : List ℕ) → BeginsSound o.sound sound (file ++ more)
  begins_held more = record {
    prefix = o.head;
    rest = sound ++ (after ++ more);
    file_is = ap (λ xs. xs ++ more) stands.file_is ∙ append_assoc o.head (sound ++ after) more ∙ ap (λ xs. o.head ++ xs) (append_assoc sound after more);
    states = stated.states;
    more = after ++ more;
    sound_is = sym (drop-append-le o.sound.start o.head (sound ++ (after ++ more)) stated.states.within) ∙ own (sound ++ (after ++ more));
  }

  module _ (law : PartIsPlayed) (d : Decimator) (least : 8 ≤ d.factor) (range : WaveRange) (divided : o.sound.rate % d.factor ≡ 0) (inside : IsInside range (total_frames d o.sound)) (fits : FitsIn range.head o.sound.channels d.width (number_of range (total_frames d o.sound))) where
    pub plays_held : PlaysBy d range file (range_file d o.sound range sound)
    plays_held =
        let s = o.sound in
        let r = with_sound o.recording s sound in
        let holds : HoldsRecording file r = holds_in s.interleaving file r (stated.holds file sound stands) in
        let has : HasSound file r s = subst (λ f. HasSound f r s) (sym stands.file_is) (stated.states.has (sound ++ after) r (subst (λ f. HoldsRecording f r) stands.file_is holds)) in
        let bytes : sound_bytes file s ≡ sound = ap (λ f. take s.size (drop s.start f)) stands.file_is ∙ ap (take s.size) (own (sound ++ after)) ∙ ap (λ n. take n (sound ++ after)) (sym stands.sound_long) ∙ take-append_seam sound after in
        let total : frame_count d r.channels ≡ total_frames d s = ap (λ k. div_ceil k d.factor) has.count in
        record {
          recording = r;
          file_holds = holds;
          rate_divided = subst (λ n. n % d.factor ≡ 0) (sym has.rate) divided;
          inside = subst (IsInside range) (sym total) inside;
          text = ap (λ n. text_in range.head (part_pcm r d range.start (stop_of range n))) total
              ∙ (law file r s range.head d range.start (stop_of range (total_frames d s)) has stated.is_sound stated.whole least inside.0 inside.1).whole fits
              ∙ ap (λ xs. Some (range_file d s range xs)) bytes;
        }

pub none_prefix : (left : Option (List ℕ)) (Plays : List ℕ → List ℕ → Type 0) (a : Option (List ℕ)) → WritesPrefix left Plays a a
none_prefix None Plays a = tt
none_prefix (Some file) Plays a = λ bytes plays. prefix_nil a bytes

-- ---- refusals of a file that is played
module _ (law : PartIsPlayed) (d : Decimator) (least : 8 ≤ d.factor) (range : WaveRange) where
  outside : (file bytes : List ℕ) (f : StreamFault) → Applies d range file f → PlaysBy d range file bytes → IsFromOutside f
  outside file bytes FileRefused (inl refused) plays = refused plays.recording plays.file_holds
  outside file bytes FileRefused (inr stands) plays =
      let text = text_of law d least range stands.prefix stands.sound stands.states stands.rest bytes (subst (λ f. PlaysBy d range f bytes) stands.file_is plays) in
      elim stands.outside [
        | inl turned ↦ (let none : ⊥ = omega (arith, turned, text.inside.0) in none)
        | inr past ↦ (let none : ⊥ = omega (arith, past, text.inside.1) in none)
      ]
  outside file bytes RateNotDivided stands plays =
      let has = stands.states.has stands.rest plays.recording (subst (λ f. HoldsRecording f plays.recording) stands.file_is plays.file_holds) in
      stands.not_divided (subst (λ n. n % d.factor ≡ 0) has.rate plays.rate_divided)
  outside file bytes TooLarge stands plays =
      let s = stands.sound in
      let r = plays.recording in
      let has = stands.states.has stands.rest r (subst (λ f. HoldsRecording f r) stands.file_is plays.file_holds) in
      let total : frame_count d r.channels ≡ total_frames d s = ap (λ k. div_ceil k d.factor) has.count in
      let none = (law (stands.prefix ++ stands.rest) r s range.head d range.start (stop_of range (total_frames d s)) has stands.states.is_sound stands.states.whole least stands.inside.0 stands.inside.1).too_large stands.large in
      let both : Some bytes ≡ None = sym plays.text ∙ ap (λ n. text_in range.head (part_pcm r d range.start (stop_of range n))) total ∙ none in
      absurd cc
  outside file bytes ReadFailed stands plays = tt
  outside file bytes WriteFailed stands plays = tt
  outside file bytes TurnLimit stands plays = tt
  outside file bytes Memory stands plays = tt

  pub only_outside : (left : Option (List ℕ)) (f : StreamFault) → IfSome left (λ file. Applies d range file f) → OnlyFromOutsideBy left d range f
  only_outside None f stands = tt
  only_outside (Some file) f stands = λ bytes plays. outside file bytes f stands plays
