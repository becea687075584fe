-- The sound bytes that are kept of the neighbours of a recording, and what is played between these.
use Rattle.std.proofs.Common.{◌≡◌, ℕ, ◌+◌, ◌-◌, ◌*◌, ◌/◌, ◌%◌, ◌<◌, ◌≤◌, min, ◌⊎◌, inl, inr, Bool, List, [], ◌∷◌, ◌++◌, length, map, get_or, replicate, take, drop, slice_range, Option, None, Some, IfSome, refl, sym, ap, subst, ◌∙◌, arith, append-nil, length-take, length-drop}
use Rattle.std.specs.Prelude.{slice_index_or}
use Rattle.std.specs.Borrow.{Bor}
use Rattle.std.specs.Int.{div_ceil}
use Rattle.std.specs.List.{range_with_len}
use Rattle.std.proofs.Math.Nat.{zero-div}
use Rattle.std.proofs.lemmas.Bool.{cases_lt}
use Rattle.std.proofs.lemmas.Grind.{div_ceil_times}
use Rattle.std.proofs.lemmas.List.{ext_get_or, get_or-map, get_or-replicate, length-map, length-replicate, nil_from_length, take_all}
use Rattle.std.proofs.lemmas.List.Elements.{All-map}
use Rattle.std.proofs.lemmas.List.FromFn.{get_or-map-range_with_len, length-map-range_with_len}
use Rattle.dsd_bits.specs.declared.interleaving.Interleaving.{Interleaving}
use Rattle.dsd_bits.specs.declared.interleaving.Interleaving.TheVariants.{Bytes, Blocks}
use Rattle.dsd_bits.specs.declared.sound.Sound.{Sound}
use Rattle.dsd_bits.specs.declared.stretches.BitRange.{BitRange}
use Rattle.dsd_bits.specs.Blocks.{block_bit, unblocked}
use Rattle.dsd_bits.specs.Channels.{IsLevel, count_of}
use Rattle.dsd_bits.specs.Contents.{Content}
use Rattle.dsd_bits.specs.Lacing.{frame_number, laced, laced_bit, laced_byte, unlaced, unlaced_all}
use Rattle.dsd_bits.specs.Sounds.{HasSound, sound_channels}
use Rattle.dsd_bits.specs.Stretches.{stretch_of}
use Rattle.dsd_bits.proofs.LacingLemmas.{unlaced_all-laced}
use Rattle.fir_core.specs.Decimator.{Decimator, IsWithinLimits}
use Rattle.folder_core.specs.Files.{IsGiven, IsReadOf, View}
use Rattle.player_core.specs.Between.{PlaysBetween, between_pcm}
use Rattle.player_core.specs.Reaches.{first_bits}
use Rattle.player_core.proofs.PartLaws.{less_times}
use Rattle.player_core.proofs.ReachLaws.{head_is_enough, tail_is_enough}
use Rattle.sound_core.specs.Files.{HoldsRecording}
use Rattle.sound_core.specs.Keeping.{IsKeptOf, stretches_in}
use Rattle.sound_core.specs.Outlines.{AreStated, around_of, with_sound}
use Rattle.sound_core.specs.declared.keeping.Kept.{Kept}
use Rattle.sound_core.proofs.HeldLaws.{channels_count, channels_number}
use Rattle.sound_core.proofs.SameLaws.{holds_in}
use Rattle.sound_core.proofs.StatedLaws.{one_sound}
use Rattle.wave_core.specs.Heads.{text_in}
use Rattle.wave_core.specs.declared.head.WaveHead.{WaveHead}
use Rattle.transfer_commands.specs.Neighbours.{AreAlike, AreChannelsOf, AreHeard, HearsAfter, HearsBefore, HoldsChannels, IsEdgeIn, IsEdgeLeft, IsHeardAfter, IsHeardBefore, IsLacedEdge, IsWholeRange, KeepsLeft}
use Rattle.transfer_commands.specs.declared.between.Edges.{Edges}
use Rattle.transfer_commands.specs.declared.between.NeighbourNames.{NeighbourNames}
use Rattle.transfer_commands.proofs.ReadLaws.{known_or_some}

-- ---- channels of one length
level_of : (f : ℕ → List Bool) (long n : ℕ) → 1 ≤ n → ((c : ℕ) → length (f c) ≡ long) → IsLevel (map f (range_with_len 0 n))
level_of f long n some each =
    let first : count_of (map f (range_with_len 0 n)) ≡ long = ap length (get_or-map-range_with_len f 0 n 0 0 [] (omega (arith, some)) refl) ∙ each 0 in
    record {
      same = All-map (λ (channel : List Bool). length channel ≡ count_of (map f (range_with_len 0 n))) f (range_with_len 0 n) (λ k d lt. each (get_or (range_with_len 0 n) k d) ∙ sym first);
    }

pub channels_level : (interleaving : Interleaving) (channels count : ℕ) (bytes : List ℕ) → 1 ≤ channels → IsLevel (sound_channels interleaving channels count bytes)
channels_level Bytes channels count bytes some = level_of (unlaced bytes channels) (8 * (length bytes / channels)) channels some (λ c. length-map-range_with_len (laced_bit bytes channels c) 0 (8 * (length bytes / channels)))
channels_level (Blocks order) channels count bytes some = level_of (unblocked order bytes channels count) count channels some (λ c. length-map-range_with_len (block_bit order bytes channels c) 0 count)

-- a recording that a file holds has a channel, and all are as long
pub holds_level : (file : List ℕ) (r : Content) → HoldsRecording file r → IsLevel r.channels × (1 ≤ length r.channels)
holds_level file r holds =
    let one = one_sound file (r, holds) in
    let s = one.0 in
    let states = one.1 in
    let none : file ++ [] ≡ file = append-nil file in
    let has : HasSound (file ++ []) r s = states.has [] r (subst (λ f. HoldsRecording f r) (sym none) holds) in
    let some = states.is_sound.some_channel in
    (subst IsLevel (sym has.channels) (channels_level s.interleaving s.channels s.count _ some), subst (λ n. 1 ≤ n) (sym has.number) some)

-- ---- a range of channels of one length
module _ (channels : List (List Bool)) (level : IsLevel channels) (some : 1 ≤ length channels) (range : BitRange) (is : IsWholeRange (count_of channels) range) where
  abbrev f : List Bool → List Bool
  f bits = slice_range bits range.start range.stop

  each : (k : ℕ) (d : List Bool) → k < length channels → length (f (get_or channels k d)) ≡ range.stop - range.start
  each k d less =
      let bits = get_or channels k d in
      let long : length bits ≡ count_of channels = level.same k d less in
      omega (arith, length-take (range.stop - range.start) (drop range.start bits), length-drop range.start bits, long, is.inside, is.ordered)

  pub stretch_number : length (stretch_of channels range) ≡ length channels
  stretch_number = length-map channels f

  pub stretch_count : count_of (stretch_of channels range) ≡ range.stop - range.start
  stretch_count = ap length (get_or-map f channels 0 [] [] (omega (arith, some))) ∙ each 0 [] (omega (arith, some))

  pub stretch_level : IsLevel (stretch_of channels range)
  stretch_level = record { same = All-map (λ (channel : List Bool). length channel ≡ count_of (stretch_of channels range)) f channels (λ k d lt. each k d lt ∙ sym stretch_count) }

  pub stretch_whole : count_of (stretch_of channels range) % 8 ≡ 0
  stretch_whole = omega (arith, stretch_count, is.start_whole, is.stop_whole, is.ordered)

  -- its sound bytes are read again
  pub stretch_again : unlaced_all (laced (stretch_of channels range)) (length channels) ≡ stretch_of channels range
  stretch_again =
      let all = stretch_of channels range in
      subst (λ n. unlaced_all (laced all) n ≡ all) stretch_number (unlaced_all-laced all stretch_level stretch_whole (omega (arith, stretch_number, some)))

  -- up to the end
  pub to_end : range.stop ≡ count_of channels → stretch_of channels range ≡ map (drop range.start) channels
  to_end at =
      ext_get_or [] (stretch_of channels range) (map (drop range.start) channels) (stretch_number ∙ sym (length-map channels (drop range.start))) (λ k h.
      let less : k < length channels = omega (arith, h, stretch_number) in
      let bits = get_or channels k [] in
      let long : length bits ≡ count_of channels = level.same k [] less in
      get_or-map f channels k [] [] less
      ∙ take_all (range.stop - range.start) (drop range.start bits) (omega (arith, length-drop range.start bits, long, at))
      ∙ sym (get_or-map (drop range.start) channels k [] [] less))

-- all bits
pub all_bits : (channels : List (List Bool)) → IsLevel channels → (count : ℕ) → count_of channels ≤ count → first_bits count channels ≡ channels
all_bits channels level count more =
    ext_get_or [] (first_bits count channels) channels (length-map channels (take count)) (λ k h.
    let less : k < length channels = omega (arith, h, length-map channels (take count)) in
    get_or-map (take count) channels k [] [] less ∙ take_all count (get_or channels k []) (omega (arith, level.same k [] less, more)))

-- ---- the sound bytes of what was kept
module _ (k : Kept) (range : BitRange) (stated : AreStated (around_of k.outline)) (file : List ℕ) (kept : IsKeptOf (around_of k.outline) (range ∷ []) (stretches_in k) file) where
  abbrev pub t : Sound
  t = k.outline.sound

  abbrev pub held : Content
  held = with_sound k.outline.recording t kept.0

  pub kept_number : length held.channels ≡ t.channels
  kept_number = channels_number t.interleaving t.channels t.count kept.0

  pub kept_count : count_of held.channels ≡ t.count
  kept_count = channels_count t.interleaving t.channels t.count kept.0 stated.is_sound.some_channel stated.whole (kept.1.sound_long ∙ stated.is_sound.size)

  pub kept_level : IsLevel held.channels
  kept_level = channels_level t.interleaving t.channels t.count kept.0 stated.is_sound.some_channel

  pub kept_first : slice_index_or (stretches_in k) 0 [] ≡ stretch_of held.channels range
  kept_first = ap (λ zs. get_or zs 0 []) kept.2

  pub kept_long : length (stretches_in k) ≡ 1
  kept_long = ap length kept.2

  kept_some : 1 ≤ length held.channels
  kept_some = omega (arith, kept_number, stated.is_sound.some_channel)

  -- a range of it has whole bytes of channels of one length
  module _ (count : ℕ) (is_count : count ≡ t.count) (whole : IsWholeRange count range) where
    abbrev part : List (List Bool)
    part = slice_index_or (stretches_in k) 0 []

    own_range : IsWholeRange (count_of held.channels) range
    own_range = subst (λ n. IsWholeRange n range) (is_count ∙ sym kept_count) whole

    pub part_number : length part ≡ t.channels
    part_number = ap length kept_first ∙ stretch_number held.channels kept_level kept_some range own_range ∙ kept_number

    pub part_level : IsLevel part
    part_level = subst IsLevel (sym kept_first) (stretch_level held.channels kept_level kept_some range own_range)

    pub part_whole : count_of part % 8 ≡ 0
    part_whole = ap (λ (channels : List (List Bool)). count_of channels % 8) kept_first ∙ stretch_whole held.channels kept_level kept_some range own_range

  pub edge_in : (s : Sound) (bytes : List ℕ) → IsLacedEdge k s bytes → IsEdgeIn s range bytes file
  edge_in s bytes is =
      let holds : HoldsRecording file held = holds_in t.interleaving file held (stated.holds file kept.0 kept.1) in
      let after = kept.0 ++ (kept.1.gap ++ (k.outline.back.items ++ kept.1.rest)) in
      let has : HasSound (k.outline.head.items ++ after) held t = stated.states.has after held (subst (λ f. HoldsRecording f held) kept.1.file_is holds) in
      record {
        recording = held;
        file_holds = holds;
        rate_is = has.rate ∙ sym is.rate;
        number = kept_number ∙ sym is.channels;
        count_is = kept_count ∙ sym is.count;
        level = kept_level;
        some = subst (λ n. 1 ≤ n) (sym kept_number) stated.is_sound.some_channel;
        bytes_are = is.bytes_are ∙ ap laced kept_first;
      }

pub edge_left : (left : Option (List ℕ)) (range : BitRange) (k : Kept) → KeepsLeft left range k → (s : Sound) (bytes : List ℕ) → IsLacedEdge k s bytes → IsEdgeLeft left s range bytes
edge_left left range k h s bytes is = record { known = by left h.known; some = (h.keeps.some.0, edge_in k range h.keeps.stated h.keeps.some.0 h.keeps.some.1 s bytes is) }
  where
    by : (o : Option (List ℕ)) → IfSome o (IsKeptOf (around_of k.outline) (range ∷ []) (stretches_in k)) → IfSome o (IsEdgeIn s range bytes)
    by None known = tt
    by (Some file) known = edge_in k range h.keeps.stated file known s bytes is

-- the first frame after channels is far from one that begins 4096 bits before their end
ceil_reach : (count m f : ℕ) → 1 ≤ f → m * f + 4096 ≤ count → 4096 ≤ (div_ceil count f - m) * f
ceil_reach count m f some far = omega (arith, far, (div_ceil_times count f some).0, less_times (div_ceil count f) m f)

-- ---- of a file that was opened under a name
module _ (view : View) (name : List ℕ) (left : Option (List ℕ)) (given : IsGiven view name left) (t s : Sound) (alike : AreAlike t s) (range : BitRange) (is_range : IsWholeRange s.count range) (bytes : List ℕ) (edge : IsEdgeLeft left s range bytes) where
  abbrev read : (file : List ℕ) × IsReadOf view name file × IsEdgeIn s range bytes file
  read = known_or_some view name left (IsEdgeIn s range bytes) given edge.known edge.some

  abbrev own : List (List Bool)
  own = read.2.recording.channels

  holds : HoldsChannels name view t.rate own
  holds = record { file = read.0; recording = read.2.recording; file_read = read.1; file_holds = read.2.file_holds; rate_is = read.2.rate_is ∙ alike.0; channels_are = refl }

  range_is : IsWholeRange (count_of own) range
  range_is = subst (λ n. IsWholeRange n range) (sym read.2.count_is) is_range

  again : unlaced_all bytes t.channels ≡ stretch_of own range
  again =
      ap (λ n. unlaced_all bytes n) (sym (read.2.number ∙ alike.1))
      ∙ ap (λ xs. unlaced_all xs (length own)) read.2.bytes_are
      ∙ stretch_again own read.2.level read.2.some range range_is

  -- whole frames
  whole_frames : length bytes ≡ frame_number (stretch_of own range) * t.channels
  whole_frames =
      let xs = stretch_of own range in
      ap length read.2.bytes_are
      ∙ length-map-range_with_len (laced_byte xs) 0 (frame_number xs * length xs)
      ∙ ap (λ n. frame_number xs * n) (stretch_number own read.2.level read.2.some range range_is ∙ read.2.number ∙ alike.1)

  pub hears_before : (d : Decimator) (m : ℕ) → IsWithinLimits d → range.stop ≡ s.count → range.start ≡ m * d.factor → (m ≡ 0) ⊎ (range.start + 4096 ≤ s.count) → HearsBefore name view t d bytes
  hears_before d m limits at start far = record {
    before = own;
    m = m;
    holds = holds;
    number = read.2.number ∙ alike.1;
    level = read.2.level;
    few = omega (arith, start, read.2.count_is, is_range.ordered, at);
    far = elim far [
      | inl none ↦ inl none
      | inr enough ↦ inr (omega (arith, ceil_reach (count_of own) m d.factor (omega (arith, limits.least_factor)) (omega (arith, read.2.count_is, start, enough)), limits.few_taps))
    ];
    frames = frame_number (stretch_of own range);
    whole = whole_frames;
    bytes_are = again ∙ to_end own read.2.level read.2.some range range_is (at ∙ sym read.2.count_is) ∙ ap (λ n. map (drop n) own) start;
  }

  to_stop : range.stop - 0 ≡ range.stop
  to_stop = omega arith

  pub hears_after : (d : Decimator) → IsWithinLimits d → range.start ≡ 0 → range.stop ≡ min s.count 4096 → HearsAfter name view t d bytes
  hears_after d limits start stop = record {
    after = own;
    count = range.stop;
    holds = holds;
    number = read.2.number ∙ alike.1;
    level = read.2.level;
    enough = elim (cases_lt s.count 4096) [
      | inl less ↦ inr (all_bits own read.2.level range.stop (omega (arith, less, stop, read.2.count_is)))
      | inr more ↦ inl (omega (arith, more, stop, limits.delay_in_taps, limits.few_taps))
    ];
    frames = frame_number (stretch_of own range);
    whole = whole_frames;
    bytes_are = again ∙ ap (λ n. map (λ (bits : List Bool). slice_range bits n range.stop) own) start ∙ ap (λ n. map (λ (bits : List Bool). take n bits) own) to_stop;
  }

-- ---- what is played between whole recordings
-- the same is played between some channels and others
pub record PlayTheSame (head : WaveHead) (d : Decimator) (rate : ℕ) (before after other_before other_after : List (List Bool)) : Type 0 where
  pub forth : (file bytes : List ℕ) → PlaysBetween head d rate before after file bytes → PlaysBetween head d rate other_before other_after file bytes
  pub back : (file bytes : List ℕ) → PlaysBetween head d rate other_before other_after file bytes → PlaysBetween head d rate before after file bytes

pub same_as_it_is : (head : WaveHead) (d : Decimator) (rate : ℕ) (before after : List (List Bool)) → PlayTheSame head d rate before after before after
same_as_it_is head d rate before after = record { forth = λ file bytes plays. plays; back = λ file bytes plays. plays }

pub same_as_both : (head : WaveHead) (d : Decimator) (rate : ℕ) (b a c e f g : List (List Bool)) → PlayTheSame head d rate b a c e → PlayTheSame head d rate c e f g → PlayTheSame head d rate b a f g
same_as_both head d rate b a c e f g one two = record { forth = λ file bytes plays. two.forth file bytes (one.forth file bytes plays); back = λ file bytes plays. one.back file bytes (two.back file bytes plays) }

-- it is so if the samples are the same
module _ (head : WaveHead) (d : Decimator) (rate : ℕ) (before after other_before other_after : List (List Bool)) (long_before : length other_before ≡ length before) (long_after : length other_after ≡ length after)
    (same : (r : Content) → IsLevel r.channels → 1 ≤ length r.channels → length before ≡ length r.channels → length after ≡ length r.channels → between_pcm r d before after ≡ between_pcm r d other_before other_after) where
  pub same_samples : PlayTheSame head d rate before after other_before other_after
  same_samples = record {
    forth = λ file bytes plays.
        let own = holds_level file plays.recording plays.file_holds in
        record {
          recording = plays.recording;
          file_holds = plays.file_holds;
          rate_same = plays.rate_same;
          number_before = long_before ∙ plays.number_before;
          number_after = long_after ∙ plays.number_after;
          whole = plays.whole;
          rate_divided = plays.rate_divided;
          text = ap (text_in head) (sym (same plays.recording own.0 own.1 plays.number_before plays.number_after)) ∙ plays.text;
        };
    back = λ file bytes plays.
        let own = holds_level file plays.recording plays.file_holds in
        record {
          recording = plays.recording;
          file_holds = plays.file_holds;
          rate_same = plays.rate_same;
          number_before = sym long_before ∙ plays.number_before;
          number_after = sym long_after ∙ plays.number_after;
          whole = plays.whole;
          rate_divided = plays.rate_divided;
          text = ap (text_in head) (same plays.recording own.0 own.1 (sym long_before ∙ plays.number_before) (sym long_after ∙ plays.number_after)) ∙ plays.text;
        };
  }

-- ---- the neighbours that are named
-- the channels of one, of which some are kept
pub record IsWholeBefore (around : Option (Bor (List ℕ))) (old : View) (t : Sound) (d : Decimator) (bytes : List ℕ) : Type 0 where
  pub before : List (List Bool)
  pub are : AreChannelsOf around old t.rate before
  pub number : length before ≡ t.channels
  pub level : IsLevel before
  pub same : (head : WaveHead) (after : List (List Bool)) → PlayTheSame head d t.rate (unlaced_all bytes t.channels) after before after

pub record IsWholeAfter (around : Option (Bor (List ℕ))) (old : View) (t : Sound) (d : Decimator) (bytes : List ℕ) : Type 0 where
  pub after : List (List Bool)
  pub are : AreChannelsOf around old t.rate after
  pub same : (head : WaveHead) (before : List (List Bool)) → IsLevel before → length before ≡ t.channels → PlayTheSame head d t.rate before (unlaced_all bytes t.channels) before after

-- no bits
no_frames : (n : ℕ) → 8 * (0 / n) ≡ 0
no_frames n = ap (λ k. 8 * k) (zero-div n)

none_long : (n k : ℕ) (d : List Bool) → k < length (unlaced_all [] n) → length (get_or (unlaced_all [] n) k d) ≡ 0
none_long n k d less =
    let size : length (unlaced_all [] n) ≡ n = length-map-range_with_len (unlaced [] n) 0 n in
    ap length (get_or-map-range_with_len (unlaced [] n) 0 n k k d (omega (arith, less, size)) (omega arith))
    ∙ length-map-range_with_len (laced_bit [] n k) 0 (8 * (0 / n))
    ∙ no_frames n

pub none_level : (n : ℕ) → IsLevel (unlaced_all [] n)
none_level n = record { same = λ k d less. none_long n k d less ∙ sym (none_long n 0 [] (omega (arith, less))) }

pub none_silent : (n : ℕ) → unlaced_all [] n ≡ replicate (length (unlaced_all [] n)) []
none_silent n =
    let all = unlaced_all [] n in
    ext_get_or [] all (replicate (length all) []) (sym (length-replicate (length all) [])) (λ k h.
    nil_from_length (get_or all k []) (none_long n k [] h) ∙ sym (get_or-replicate (length all) k [] [] h))

pub whole_before : (around : Option (Bor (List ℕ))) (old : View) (t : Sound) (d : Decimator) → IsWithinLimits d → (bytes : List ℕ) → IsHeardBefore around old t d bytes → IsWholeBefore around old t d bytes
whole_before None old t d limits bytes is =
    let all = unlaced_all bytes t.channels in
    record {
      before = all;
      are = subst (λ xs. unlaced_all xs t.channels ≡ replicate (length (unlaced_all xs t.channels)) []) (sym is) (none_silent t.channels);
      number = length-map-range_with_len (unlaced bytes t.channels) 0 t.channels;
      level = subst (λ xs. IsLevel (unlaced_all xs t.channels)) (sym is) (none_level t.channels);
      same = λ head after. same_as_it_is head d t.rate all after;
    }
whole_before (Some name) old t d limits bytes is =
    let near = unlaced_all bytes t.channels in
    record {
      before = is.before;
      are = is.holds;
      number = is.number;
      level = is.level;
      same = λ head after. same_samples head d t.rate near after is.before after (is.number ∙ sym (length-map-range_with_len (unlaced bytes t.channels) 0 t.channels)) refl
          (λ r level some number_before number_after.
          let number : length is.before ≡ length r.channels = is.number ∙ sym (length-map-range_with_len (unlaced bytes t.channels) 0 t.channels) ∙ number_before in
          ap (λ cs. between_pcm r d cs after) is.bytes_are ∙ tail_is_enough d r is.before after is.m (omega (arith, limits.least_factor)) some is.level number level is.few is.far);
    }

pub whole_after : (around : Option (Bor (List ℕ))) (old : View) (t : Sound) (d : Decimator) → IsWithinLimits d → (bytes : List ℕ) → IsHeardAfter around old t d bytes → IsWholeAfter around old t d bytes
whole_after None old t d limits bytes is =
    let all = unlaced_all bytes t.channels in
    record {
      after = all;
      are = subst (λ xs. unlaced_all xs t.channels ≡ replicate (length (unlaced_all xs t.channels)) []) (sym is) (none_silent t.channels);
      same = λ head before level number. same_as_it_is head d t.rate before all;
    }
whole_after (Some name) old t d limits bytes is =
    let near = unlaced_all bytes t.channels in
    let near_long = length-map-range_with_len (unlaced bytes t.channels) 0 t.channels in
    record {
      after = is.after;
      are = is.holds;
      same = λ head before before_level before_number. same_samples head d t.rate before near before is.after refl (is.number ∙ sym near_long)
          (λ r level some number_before number_after.
          let number : length is.after ≡ length r.channels = is.number ∙ sym near_long ∙ number_after in
          ap (λ cs. between_pcm r d before cs) is.bytes_are ∙ elim is.enough [
            | inl enough ↦ head_is_enough d r before is.after is.count (omega (arith, limits.least_factor)) some before_level number_before level number enough
            | inr all ↦ ap (λ cs. between_pcm r d before cs) all
          ]);
    }

-- both
pub record AreWhole (around : NeighbourNames) (old : View) (rate : ℕ) (d : Decimator) (near_before near_after : List (List Bool)) : Type 0 where
  pub before : List (List Bool)
  pub after : List (List Bool)
  pub before_are : AreChannelsOf around.previous old rate before
  pub after_are : AreChannelsOf around.next old rate after
  pub same : (head : WaveHead) → PlayTheSame head d rate near_before near_after before after

pub whole_around : (around : NeighbourNames) (old : View) (t : Sound) (d : Decimator) → IsWithinLimits d → (e : Edges) → AreHeard around old t d e → AreWhole around old e.rate d (unlaced_all e.before.items e.channels) (unlaced_all e.after.items e.channels)
whole_around around old t d limits e heard =
    let b = whole_before around.previous old t d limits e.before.items heard.before in
    let a = whole_after around.next old t d limits e.after.items heard.after in
    let near = unlaced_all e.after.items t.channels in
    subst (λ n. AreWhole around old e.rate d (unlaced_all e.before.items n) (unlaced_all e.after.items n)) (sym heard.channels)
    (subst (λ n. AreWhole around old n d (unlaced_all e.before.items t.channels) near) (sym heard.rate)
    (record {
      before = b.before;
      after = a.after;
      before_are = b.are;
      after_are = a.are;
      same = λ head. same_as_both head d t.rate (unlaced_all e.before.items t.channels) near b.before near b.before a.after (b.same head near) (a.same head b.before b.level b.number);
    }))
