-- What was written where a file is not played to its end.
use Rattle.std.proofs.Common.{◌≡◌, ℕ, ◌+◌, ◌-◌, ◌*◌, ◌/◌, ◌%◌, ◌<◌, ◌≤◌, min, inl, inr, List, ◌++◌, drop, length, slice_range, Option, None, Some, IfSome, sym, subst, ap, ap₂, ◌∙◌, arith, append_assoc, length-append, length-drop, length-take, unwrap_or}
use Rattle.std.proofs.Math.Nat.{mul-le-mul_right}
use Rattle.chunk_core.specs.Outlets.{AppendsPrefix, outlet_failures, outlet_writer}
use Rattle.dsd_bits.specs.declared.interleaving.Interleaving.TheVariants.{Bytes}
use Rattle.dsd_bits.specs.declared.sound.Sound.{Sound}
use Rattle.dsd_bits.specs.Sounds.{IsSound}
use Rattle.fir_core.specs.Decimator.{Decimator, IsWithinLimits}
use Rattle.player_core.specs.Due.{due_bytes, frames_due}
use Rattle.player_core.specs.Groups.{part_size, place_in}
use Rattle.player_core.specs.Laws.{file_around, total_frames}
use Rattle.player_core.specs.Pace.{HoldsFrames, IsWithinBytes, KeepsUpBy, PlayFails, WritesFrames}
use Rattle.player_core.specs.Parts.{frames_before, groups_before, part_bytes, rest_of}
use Rattle.player_core.specs.PartView.{IsPartComplete, IsPartFed, IsPartOf, part_all, part_due, part_start}
use Rattle.player_core.specs.Playing.{Applies, IsLackedBySome, PartIsPlayed, PlaysBy, WritesPrefix}
use Rattle.player_core.specs.Ranges.{HasFrame, stop_of}
use Rattle.player_core.specs.Sinks.{IsPlaying, IsPlayingFault, RefusesPlaying, range_file, range_sound}
use Rattle.player_core.specs.Wave.{pad_of, sound_header}
use Rattle.player_core.specs.declared.parts.PartPlayer.{PartPlayer}
use Rattle.player_core.specs.declared.range.WaveRange.{WaveRange}
use Rattle.player_core.specs.declared.sink.PlayingSink.{PlayingSink}
use Rattle.sound_core.specs.Files.{GivesNone, LeadsToSound}
use Rattle.sound_core.specs.Naming.{IsExactUnless}
use Rattle.sound_core.specs.Sinks.{BeginsSound, RefusesFile, StopsTaking, sound_given}
use Rattle.sound_core.specs.declared.fault.StreamFault.{StreamFault}
use Rattle.sound_core.specs.declared.fault.Unread.{Unread}
use Rattle.sound_core.proofs.StatedLaws.{stated_once}
use Rattle.wave_core.specs.Heads.{header_size_in}
use Rattle.wave_core.specs.Sizes.{block_align}
use Rattle.wave_core.proofs.SizeLaws.{length_of_header}
use Rattle.player_core.proofs.FaultLaws.{opening_holds, outline_holds, outline_later, outline_unwritten, own_goes_on}
use Rattle.player_core.proofs.FeedLaws.{place_after}
use Rattle.player_core.proofs.PartFeedLaws.{limits_of}
use Rattle.player_core.proofs.PartLaws.{frames_few, less_times, places_are, rest_sound}
use Rattle.player_core.proofs.PieceLaws.{due_first}
use Rattle.player_core.proofs.PlaceLaws.{frame_due, length-due, place_known, some_more}
use Rattle.player_core.proofs.PlayLaws.{none_prefix, text_came}
use Rattle.player_core.proofs.SinkLaws.{parted, rest_long}
use Rattle.player_core.proofs.SliceLaws.{drop_more_of}

-- ---- the frames of a part, by the rest of the sound that its player is fed
module _ (d : Decimator) (s : Sound) (limits : IsWithinLimits d) (is : IsSound s) (start stop : ℕ) (p : PartPlayer) (plays : IsPartOf d s start stop p) where
  abbrev k : ℕ
  k = groups_before d s.interleaving start

  abbrev m : ℕ
  m = frames_before d s.interleaving start

  abbrev align : ℕ
  align = block_align s.channels d.width

  early : m ≤ start
  early = omega (arith, frames_few d s.interleaving limits start)

  -- the place of a frame in the rest
  place_in_rest : (u j : ℕ) → start ≤ j → IsWithinBytes s (u - 65536) (j * d.factor + d.delay) → IsWithinBytes (rest_of s k) (u - part_start p - 65536) ((j - m) * d.factor + d.delay)
  place_in_rest u j late stands c low =
      let o = s.interleaving in
      let e = j - m in
      let from : m + e ≡ j = omega (arith, early, late) in
      let spread : (m + e) * d.factor ≡ m * d.factor + e * d.factor = grind arith in
      let same : (m + e) * d.factor ≡ j * d.factor = ap (λ n. n * d.factor) from in
      let byte : (j * d.factor + d.delay) / 8 ≡ k * part_size o + (e * d.factor + d.delay) / 8 = omega (arith, spread, same, places_are d o limits start) in
      let at : place_in o s.channels c ((j * d.factor + d.delay) / 8) ≡ k * (s.channels * part_size o) + place_in o s.channels c ((e * d.factor + d.delay) / 8)
      = ap (place_in o s.channels c) byte ∙ place_after o s.channels c ((e * d.factor + d.delay) / 8) k in
      omega (arith, stands c low, at, plays.start_is)

  -- what is due of the part holds a frame that is due of the rest
  frame_held : (xs : List ℕ) (j : ℕ) → start ≤ j → j < stop → (j + 1 - m) * align ≤ length (due_bytes d (rest_of s k) xs) → (j + 1 - start) * align ≤ length (part_due p xs)
  frame_held xs j late inside due =
      let ys = due_bytes d (rest_of s k) xs in
      let number : j + 1 - start ≡ (j + 1 - m) - (start - m) = omega (arith, early, late) in
      let parts : (j + 1 - start) * align ≡ (j + 1 - m) * align - (start - m) * align = ap (λ n. n * align) number ∙ less_times (j + 1 - m) (start - m) align in
      let most : (j + 1 - m) * align ≤ (stop - m) * align = mul-le-mul_right align (omega (arith, inside)) in
      let same : part_due p xs ≡ slice_range ys p.skip p.stop = ap₂ (λ e t. slice_range (due_bytes e t xs) p.skip p.stop) plays.filter_is plays.rest_is in
      let long : length (part_due p xs) ≡ min (p.stop - p.skip) (length ys - p.skip) = ap length same ∙ length-take (p.stop - p.skip) (drop p.skip ys) ∙ ap (min (p.stop - p.skip)) (length-drop p.skip ys) in
      omega (arith, due, parts, most, long, plays.skip_is, plays.stop_is)

  -- once the part is complete, it holds all of its frames
  pub complete_held : (xs : List ℕ) → IsPartFed p xs → IsPartComplete p → (j : ℕ) → start ≤ j → j < stop → (j + 1 - start) * align ≤ length (part_due p xs)
  complete_held xs fed complete j late inside =
      let most : (j + 1 - m) * align ≤ (stop - m) * align = mul-le-mul_right align (omega (arith, inside)) in
      let given : p.given ≡ length (due_bytes d (rest_of s k) xs) = fed.given ∙ ap₂ (λ e t. length (due_bytes e t xs)) plays.filter_is plays.rest_is in
      frame_held xs j late inside (omega (arith, most, given, complete, plays.stop_is))

  -- it holds each frame whose place is in all but the last 65,536 bytes that came
  pub due_held : (whole : s.interleaving ≡ Bytes → s.count % 8 ≡ 0) (came : List ℕ) → length came ≤ s.size → (j : ℕ) → start ≤ j → j < stop → IsWithinBytes s (length came - 65536) (j * d.factor + d.delay)
      → (j + 1 - start) * align ≤ length (part_due p (drop (part_start p) came))
  due_held whole came few j late inside stands =
      let r = rest_of s k in
      let xs = drop (part_start p) came in
      let long : length xs ≡ length came - part_start p = length-drop (part_start p) came in
      let within : length xs ≤ r.size = omega (arith, long, few, plays.start_is) in
      let due : j - m < frames_due d r (length xs) = frame_due d r (rest_sound s is whole k) limits.least_factor (length xs) (j - m) within (λ c low. omega (arith, place_in_rest (length came) j late stands c low, long)) in
      let most : (j + 1 - m) * align ≤ frames_due d r (length xs) * align = mul-le-mul_right align (omega (arith, due, early, late)) in
      frame_held xs j late inside (omega (arith, most, length-due d r xs))

-- a frame of a range whose place is in the sound is one of its frames
frame_inside : (d : Decimator) (s : Sound) (range : WaveRange) → IsSound s → 8 ≤ d.factor → (u j : ℕ) → u ≤ s.size → HasFrame range j → IsWithinBytes s (u - 65536) (j * d.factor + d.delay) → j < stop_of range (total_frames d s)
frame_inside d s range is least u j within has stands = by range.stop has.1
  where
    by : (o : Option ℕ) → IfSome o (λ stop. j < stop) → j < unwrap_or o (total_frames d s)
    by (Some stop) below = below
    by None all = let known = place_known s is u (j * d.factor + d.delay) within stands in some_more j s.count d.factor (omega (arith, least)) (omega (arith, known))

-- ---- the reading ends in a sound, of which all that came was played
module _ {W : Type 0} (held : W → Option (List ℕ)) (law : PartIsPlayed) (old new : PlayingSink W) (least : 8 ≤ old.taps.now.factor) (s : Sound) (came : List ℕ) (is : IsPlaying held old new s came) (few : length came ≤ s.size) where
  abbrev d : Decimator
  d = old.taps.now

  abbrev range : WaveRange
  range = old.range

  abbrev a : Option (List ℕ)
  a = held (outlet_writer old.outlet.now)

  abbrev c : Option (List ℕ)
  c = held (outlet_writer new.outlet.now)

  abbrev p : PartPlayer
  p = is.feeding.player

  abbrev fs : Sound
  fs = range_sound d s range

  abbrev first : List ℕ
  first = sound_header range.head d fs ++ part_due p (drop (part_start p) is.looked_at)

  -- that much of what the file plays was written, and nothing after it
  begun : (file bytes : List ℕ) → BeginsSound s came file → PlaysBy d range file bytes → (back : List ℕ) × (bytes ≡ first ++ back)
  begun file bytes begins plays =
      let on = is.feeding in
      let seen = is.looked_at in
      let n = part_start p in
      let text = text_came law d least range s came file bytes begins few plays in
      let after = is.passed_over ++ text.rest in
      let whole = seen ++ after in
      let joined : came ++ text.rest ≡ whole = ap (λ xs. xs ++ text.rest) is.bytes_are ∙ append_assoc seen is.passed_over text.rest in
      let long : length whole ≡ s.size = ap length (sym joined) ∙ text.long in
      let all : drop n whole ≡ drop n seen ++ drop (n - length seen) after = drop_more_of n seen after in
      let more = due_first p on.is_player (drop n seen) (drop (n - length seen) after) (ap length (sym all) ∙ rest_long held old new s seen on p on.player_is whole long) in
      let part : part_bytes d s whole range.start (stop_of range (total_frames d s)) ≡ part_due p (drop n seen) ++ more.0 = sym (on.plays.gives whole long) ∙ ap (part_all p) all ∙ more.1 in (
        more.0 ++ pad_of d fs,
        text.is ∙ ap (range_file d s range) joined ∙ ap (file_around range.head d fs) part ∙ parted (sound_header range.head d fs) (part_due p (drop n seen)) more.0 (pad_of d fs),
      )

  pub prefix_came : (left : Option (List ℕ)) → IfSome left (BeginsSound s came) → WritesPrefix left (PlaysBy d range) a c
  prefix_came None begins = tt
  prefix_came (Some file) begins = λ bytes plays. (let back = begun file bytes begins plays in (first, back.0, back.1, is.feeding.written))

  -- it holds each frame of the range whose place is in all but the last 65,536 bytes that came
  frames_came : (s.interleaving ≡ Bytes → s.count % 8 ≡ 0) → (u j : ℕ) → u ≤ length came → HasFrame range j → IsWithinBytes s (u - 65536) (j * d.factor + d.delay) → (j + 1 - range.start) * block_align s.channels d.width ≤ length (part_due p (drop (part_start p) is.looked_at))
  frames_came whole u j most has stands =
      let on = is.feeding in
      let limits : IsWithinLimits d = subst IsWithinLimits on.plays.filter_is (limits_of p.player on.is_player.player) in
      let stop = stop_of range (total_frames d s) in
      let inside : j < stop = frame_inside d s range on.is_sound least u j (omega (arith, most, few)) has stands in
      elim is.all_or_complete [
        | inl none ↦
            let long : length came ≡ length is.looked_at = ap length is.bytes_are ∙ length-append is.looked_at is.passed_over ∙ omega (arith, ap length none) in
            due_held d s limits on.is_sound range.start stop p on.plays whole is.looked_at (omega (arith, few, long)) j has.0 inside (λ e low. omega (arith, stands e low, most, long))
        | inr complete ↦ complete_held d s limits on.is_sound range.start stop p on.plays (drop (part_start p) is.looked_at) on.fed complete j has.0 inside
      ]

  pub keeps_came : (left : Option (List ℕ)) (given : ℕ) → IfSome left (BeginsSound s came) → sound_given s given ≤ length came + 65536 → KeepsUpBy left d range given a c
  keeps_came None given begins pace = tt
  keeps_came (Some file) given begins pace = λ bytes t plays stated much.
      let back = begun file bytes begins plays in
      let same : t ≡ s = stated_once begins.prefix begins.rest s t begins.states (subst (λ f. LeadsToSound f t) begins.file_is stated) in
      let n = sound_given s given - 131072 in
      let long : length first ≡ header_size_in range.head s.channels d.width + length (part_due p (drop (part_start p) is.looked_at))
      = length-append (sound_header range.head d fs) (part_due p (drop (part_start p) is.looked_at)) ∙ ap (λ k. k + length (part_due p (drop (part_start p) is.looked_at))) (length_of_header range.head s.channels (s.rate / d.factor) d.width (total_frames d fs)) in
      let holds : HoldsFrames d s range n (length first) = record {
        header = omega (arith, long);
        frames = λ j has stands. omega (arith, long, frames_came begins.states.whole (length came) j (omega arith) has (λ e low. omega (arith, stands e low, pace)));
      } in
      subst (λ (z : Sound). WritesFrames d z range (sound_given z given - 131072) bytes a c) (sym same) (first, back.0, back.1, is.feeding.written, holds)

-- ---- why it is not played to its end
module _ {W : Type 0} (held : W → Option (List ℕ)) (left : Option (List ℕ)) (g h : ℕ) (old new : PlayingSink W) (f : StreamFault) where
  abbrev pub Stops : Type 0
  Stops = StopsTaking (λ a b s done bytes. IsPlaying held a b s bytes) (λ a b s came e. RefusesPlaying held a b s came e) left g h old new f

  abbrev filter : Decimator
  filter = old.taps.now

  abbrev was : Option (List ℕ)
  was = held (outlet_writer old.outlet.now)

  abbrev now : Option (List ℕ)
  now = held (outlet_writer new.outlet.now)

  -- of the same outlet
  pub same_outlet : Stops → new.outlet.ghost_name ≡ old.outlet.ghost_name
  same_outlet (inl none) = ap (λ (k : PlayingSink W). k.outlet.ghost_name) none.same
  same_outlet (inr some) = elim some.how [
    | inl ends ↦ ends.taken.feeding.same
    | inr refuses ↦ refuses.refuses.same
  ]

  keeps_none : (o a b : Option (List ℕ)) → GivesNone o g h → KeepsUpBy o filter old.range (h - g) a b
  keeps_none None a b none = tt
  keeps_none (Some xs) a b none = λ bytes s plays stated much. let before = none s (plays.recording, plays.file_holds) stated in absurd (omega (arith, before, much))

  refused_holds : (o : Option (List ℕ)) (s : Sound) (came : List ℕ) → IfSome o (BeginsSound s came) → IsPlayingFault filter s old.range f → IfSome o (λ file. Applies filter old.range file f)
  refused_holds None s came begins fault = tt
  refused_holds (Some file) s came begins fault = subst (λ x. Applies filter old.range x f) (sym begins.file_is) (opening_holds filter begins.prefix begins.rest s old.range begins.states f fault)

  module _ (law : PartIsPlayed) (least : 8 ≤ filter.factor) where
    refused_prefix : (o : Option (List ℕ)) (s : Sound) (came : List ℕ) → IfSome o (BeginsSound s came) → length came ≤ s.size → RefusesPlaying held old new s came f → WritesPrefix o (PlaysBy filter old.range) was now
    refused_prefix None s came begins few refuses = tt
    refused_prefix (Some file) s came begins few refuses = λ bytes plays.
        let text = text_came law filter least old.range s came file bytes begins few plays in
        subst (AppendsPrefix was now) (sym text.is) (refuses.prefix text.rest text.long)

    pub play_fails : Stops → PlayFails held left filter old.range (h - g) old.outlet.now new.outlet.now f
    play_fails (inl none) = record {
      fault = outline_holds left filter old.range f none.fault;
      unwritten = λ early. ap (λ (k : PlayingSink W). outlet_writer k.outlet.now) none.same;
      prefix = subst (λ (k : PlayingSink W). WritesPrefix left (PlaysBy filter old.range) was (held (outlet_writer k.outlet.now))) (sym none.same) (none_prefix left (PlaysBy filter old.range) was);
      keeps_up = λ stops. keeps_none left was now (none.none stops);
      failures = omega (arith, ap (λ (k : PlayingSink W). outlet_failures k.outlet.now) none.same, outline_unwritten (Unit {0}) left f none.fault);
    }
    play_fails (inr some) = elim some.how [
      | inl ends ↦ record {
        fault = outline_holds left filter old.range f ends.fault;
        unwritten = λ early. absurd (outline_later left f ends.fault early);
        prefix = prefix_came held law old new least some.sound some.came ends.taken some.few left some.begins;
        keeps_up = λ stops. keeps_came held law old new least some.sound some.came ends.taken some.few left (h - g) some.begins (ends.pace stops);
        failures = omega (arith, ends.taken.feeding.failures, outline_unwritten (Unit {0}) left f ends.fault);
      }
      | inr refuses ↦ record {
        fault = refused_holds left some.sound some.came some.begins refuses.refuses.fault;
        unwritten = refuses.refuses.unwritten;
        prefix = refused_prefix left some.sound some.came some.begins some.few refuses.refuses;
        keeps_up = λ stops. absurd (own_goes_on f refuses.own stops);
        failures = refuses.refuses.failures;
      }
    ]

-- the sink refuses a file itself only for a sound that lacks frames
pub lacked : {W : Type 0} (held : W → Option (List ℕ)) (old new : PlayingSink W) (u : Unread) → IsExactUnless (RefusesFile (λ a b s came e. RefusesPlaying held a b s came e) old new) u → IsExactUnless (IsLackedBySome old.taps.now old.range) u
lacked held old new u exact is = let refused = exact is in (refused.0, refused.2.fault)
