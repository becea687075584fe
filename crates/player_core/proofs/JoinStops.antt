-- What was written of a sound that is joined to others, where its file is not played to its end.
use Rattle.std.proofs.Common.{◌≡◌, ℕ, ◌+◌, ◌-◌, ◌%◌, ◌≤◌, ◌≢◌, inl, inr, List, [], ◌++◌, length, take, drop, Option, None, Some, IfSome, Result, Ok, Err, IfErr, true, false, refl, sym, subst, ap, ap₂, ◌∙◌, arith, append_assoc, append-nil, length-append, length-take, length-drop}
use Rattle.std.specs.Io.KnownBytes.{Consumes}
use Rattle.std.proofs.lemmas.Bool.{cases_lt}
use Rattle.std.proofs.lemmas.List.{drop-append-le, nil_from_length, take_all}
use Rattle.chunk_core.specs.Inlets.{inlet_reader}
use Rattle.chunk_core.specs.Outlets.{AppendsPrefix, outlet_failures, outlet_writer}
use Rattle.chunk_core.specs.declared.inlet.Inlet.{Inlet}
use Rattle.chunk_core.specs.declared.outlet.Outlet.{Outlet}
use Rattle.dsd_bits.specs.declared.interleaving.Interleaving.{Interleaving}
use Rattle.dsd_bits.specs.declared.interleaving.Interleaving.TheVariants.{Bytes, Blocks}
use Rattle.dsd_bits.specs.declared.sound.Sound.{Sound}
use Rattle.dsd_bits.specs.Channels.{count_of}
use Rattle.dsd_bits.specs.Sounds.{IsSound, has_blocks, sound_bytes, sound_channels, sound_size}
use Rattle.sound_core.specs.Files.{HoldsRecording}
use Rattle.fir_core.specs.Decimator.{Decimator}
use Rattle.sound_core.specs.Faults.{IsWritingFault}
use Rattle.sound_core.specs.Naming.{IsExactUnless}
use Rattle.sound_core.specs.Outlines.{AreStated, IsOutlineFault, Surroundings}
use Rattle.sound_core.specs.Sinks.{BeginsSound, IsFed, RefusesFile, StopsTaking, TakesGiven}
use Rattle.sound_core.specs.declared.fault.StreamFault.{StreamFault}
use Rattle.sound_core.specs.declared.fault.StreamFault.TheVariants.{FileRefused, RateNotDivided, TooLarge, ReadFailed, WriteFailed, TurnLimit, Memory}
use Rattle.sound_core.specs.declared.fault.Unread.{Unread}
use Rattle.sound_core.specs.declared.part.SoundPart.{SoundPart}
use Rattle.sound_core.proofs.FaultLaws.{by_writing}
use Rattle.sound_core.proofs.ReadLaws.{whole_is}
use Rattle.sound_core.proofs.RelayLaws.{relaced_begins}
use Rattle.sound_core.proofs.TakingLaws.{fed_on}
use Rattle.wave_core.specs.Heads.{limit_of, size_in, text_in}
use Rattle.wave_core.specs.declared.head.WaveHead.{WaveHead}
use Rattle.player_core.specs.Between.{AppliesBetweenBy, CanBeJoined, IsJoined, IsJoining, IsJoiningFault, IsUnjoinedBySome, PlaysBetween, bits_after, bits_before, channels_after, channels_before, frame_after, framed, in_frames, joined, own_number, own_range, with_range}
use Rattle.player_core.specs.Joining.{BetweenFails, IsSameOutlet, PlaysAround, RefusesEnd, RefusesJoining, WritesJoined, joined_file}
use Rattle.player_core.specs.Laws.{file_around, total_frames}
use Rattle.player_core.specs.Parts.{part_bytes}
use Rattle.player_core.specs.PartView.{part_all, part_due, part_start}
use Rattle.player_core.specs.Playing.{PartIsPlayed, WritesPrefix, part_pcm}
use Rattle.player_core.specs.Ranges.{stop_of}
use Rattle.player_core.specs.Sinks.{IsPlaying, IsPlayingFault, RefusesPlaying, range_file, range_sound}
use Rattle.player_core.specs.Wave.{pad_of, sound_header}
use Rattle.player_core.specs.declared.joining.JoiningSink.{JoiningSink}
use Rattle.player_core.specs.declared.joining.Neighbours.{Neighbours}
use Rattle.player_core.specs.declared.range.WaveRange.{WaveRange}
use Rattle.player_core.specs.declared.sink.PlayingSink.{PlayingSink}
use Rattle.player_core.proofs.FaultLaws.{outline_later, outline_unwritten, writing_own}
use Rattle.player_core.proofs.FeedLaws.{ceil_grows}
use Rattle.player_core.proofs.JoinLaws.{framed_blocks, framed_bytes, framed_join, framed_long, neighbour_count, text_is, text_none}
use Rattle.player_core.proofs.PieceLaws.{due_first}
use Rattle.player_core.proofs.PlayLaws.{begins_held, none_prefix}
use Rattle.player_core.proofs.SinkLaws.{parted, rest_long}
use Rattle.player_core.proofs.SliceLaws.{drop_more_of}

-- what follows from two that hold at a refusal
pub both_err : {X E : Type 0} (r : Result X E) (P Q S : E → Type 0) → ((f : E) → P f → Q f → S f) → IfErr r P → IfErr r Q → IfErr r S
both_err (Ok x) P Q S on p q = tt
both_err (Err f) P Q S on p q = on f p q

-- the frames of a joined sound whose place lies in the sound itself are among all of them
own_ordered : (d : Decimator) (around : Neighbours) (s j : Sound) → IsJoined around s j → 8 ≤ d.factor → (frame_after d (bits_before around) ≤ frame_after d (bits_before around + s.count)) × (frame_after d (bits_before around + s.count) ≤ total_frames d j)
own_ordered d around s j is least =
    let counted : j.count ≡ bits_before around + (s.count + bits_after around) = ap (λ (t : Sound). t.count) is.is in (
      ceil_grows (bits_before around) (bits_before around + s.count) d.factor (omega (arith, least)) (omega arith),
      ceil_grows (bits_before around + s.count) j.count d.factor (omega (arith, least)) (omega (arith, counted)),
    )

-- ---- a sink that plays
-- it has written a prefix of what is played of all sounds that begin with these bytes
pub playing_prefix : {W : Type 0} (held : W → Option (List ℕ)) (first now : PlayingSink W) (s : Sound) (came : List ℕ) → IsPlaying held first now s came → (rest : List ℕ) → length (came ++ rest) ≡ s.size
    → AppendsPrefix (held (outlet_writer first.outlet.now)) (held (outlet_writer now.outlet.now)) (range_file first.taps.now s first.range (came ++ rest))
playing_prefix held first now s came is rest all =
    let d = first.taps.now in
    let range = first.range in
    let on = is.feeding in
    let p = on.player in
    let seen = is.looked_at in
    let n = part_start p in
    let fs = range_sound d s range in
    let after = is.passed_over ++ rest in
    let whole = seen ++ after in
    let one : came ++ rest ≡ whole = ap (λ xs. xs ++ rest) is.bytes_are ∙ append_assoc seen is.passed_over rest in
    let long : length whole ≡ s.size = ap length (sym one) ∙ all in
    let parts : drop n whole ≡ drop n seen ++ drop (n - length seen) after = drop_more_of n seen after in
    let more = due_first p on.is_player (drop n seen) (drop (n - length seen) after) (ap length (sym parts) ∙ rest_long held first now s seen on p on.player_is whole long) in
    let part : part_bytes d s whole range.start (stop_of range (total_frames d s)) ≡ part_due p (drop n seen) ++ more.0 = sym (on.plays.gives whole long) ∙ ap (part_all p) parts ∙ more.1 in (
      sound_header range.head d fs ++ part_due p (drop n seen),
      more.0 ++ pad_of d fs,
      ap (range_file d s range) one ∙ ap (file_around range.head d fs) part ∙ parted (sound_header range.head d fs) (part_due p (drop n seen)) more.0 (pad_of d fs),
      on.written,
    )

-- ---- sound bytes in frames
-- those that came begin those of the whole
pub frames_begin : (s : Sound) (done : ℕ) (came rest : List ℕ) → IsFed s done came → length (came ++ rest) ≡ s.size → (more : List ℕ) × (in_frames s s.count (came ++ rest) ≡ in_frames s done came ++ more)
frames_begin s done came rest fed long = by s.interleaving refl
  where
    by : (o : Interleaving) → s.interleaving ≡ o → (more : List ℕ) × (in_frames s s.count (came ++ rest) ≡ in_frames s done came ++ more)
    by Bytes is =
        let none : has_blocks s.interleaving ≡ false = ap has_blocks is in
        (rest, framed_bytes s.interleaving s.channels s.count (came ++ rest) none ∙ ap (λ xs. xs ++ rest) (sym (framed_bytes s.interleaving s.channels done came none)))
    by (Blocks order) is =
        let some : has_blocks s.interleaving ≡ true = ap has_blocks is in
        let begins = relaced_begins s Bytes done came rest fed long in
        (begins.0, framed_blocks s.interleaving s.channels s.count (came ++ rest) some ∙ begins.1 ∙ ap (λ xs. xs ++ begins.0) (sym (framed_blocks s.interleaving s.channels done came some)))

-- ---- a sink of a joined sound
module _ {W : Type 0} (held : W → Option (List ℕ)) (first : JoiningSink W) (s j : Sound) (is : IsJoined first.around s j) (is_sound : IsSound s) where
  abbrev range : WaveRange
  range = own_range first.playing.now.range.head first.playing.now.taps.now first.around s

  abbrev own : PlayingSink W
  own = with_range first.playing.now range

  abbrev whole_of : List ℕ → List ℕ
  whole_of bytes = first.around.before.now ++ (in_frames s s.count bytes ++ first.around.after.now)

  whole_size : (bytes : List ℕ) → length bytes ≡ s.size → length (whole_of bytes) ≡ j.size
  whole_size bytes long =
      omega (
        arith,
        framed_long s.interleaving s.channels s.count bytes is_sound.some_channel (long ∙ is_sound.size),
        length-append first.around.before.now (in_frames s s.count bytes ++ first.around.after.now),
        length-append (in_frames s s.count bytes) first.around.after.now,
        ap (λ (t : Sound). t.size) is.is,
      )

  -- the whole begins with these bytes, whichever sound begins with those that came
  abbrev pub Begins : List ℕ → List ℕ → Type 0
  Begins came bytes = (rest : List ℕ) → length (came ++ rest) ≡ s.size → (tail : List ℕ) × (whole_of (came ++ rest) ≡ bytes ++ tail)

  pub refused_after : (now : JoiningSink W) (came bytes : List ℕ) (f : StreamFault) → Begins came bytes → now.playing.ghost_name ≡ first.playing.ghost_name → IsJoiningFault first.playing.now.range.head first.playing.now.taps.now first.around s f → RefusesPlaying held own now.playing.now j bytes f
      → RefusesJoining held first now s came f
  refused_after now came bytes f begins reference fault refuses = record {
    reference = reference;
    same = refuses.same;
    fault = fault;
    unwritten = refuses.unwritten;
    written = inr (
      j,
      is,
      λ rest long.
          let at = begins rest long in
          subst (λ xs. AppendsPrefix (held (outlet_writer first.playing.now.outlet.now)) (held (outlet_writer now.playing.now.outlet.now)) (range_file first.playing.now.taps.now j range xs)) (sym at.1)
          (refuses.prefix at.0 (ap length (sym at.1) ∙ whole_size (came ++ rest) long)),
    );
    failures = refuses.failures;
  }

  pub written_after : (now : JoiningSink W) (came bytes : List ℕ) → Begins came bytes → IsPlaying held own now.playing.now j bytes → WritesJoined held first now s came
  written_after now came bytes begins plays = inr (
    j,
    is,
    λ rest long.
        let at = begins rest long in
        subst (λ xs. AppendsPrefix (held (outlet_writer first.playing.now.outlet.now)) (held (outlet_writer now.playing.now.outlet.now)) (range_file first.playing.now.taps.now j range xs)) (sym at.1)
        (playing_prefix held own now.playing.now j bytes plays at.0 (ap length (sym at.1) ∙ whole_size (came ++ rest) long)),
  )

  -- it begins with nothing, and with what is before
  pub begins_empty : Begins [] []
  begins_empty = λ rest long. (whole_of rest, refl)

  pub begins_before : Begins [] first.around.before.now
  begins_before = λ rest long. (in_frames s s.count rest ++ first.around.after.now, refl)

  -- and after that with what came
  pub begins_at : (done : ℕ) (came : List ℕ) → IsFed s done came → Begins came (first.around.before.now ++ in_frames s done came)
  begins_at done came fed = λ rest long.
      let at = frames_begin s done came rest fed long in (
        at.0 ++ first.around.after.now,
        ap (λ xs. first.around.before.now ++ (xs ++ first.around.after.now)) at.1
            ∙ ap (λ xs. first.around.before.now ++ xs) (append_assoc (in_frames s done came) at.0 first.around.after.now)
            ∙ sym (append_assoc first.around.before.now (in_frames s done came) (at.0 ++ first.around.after.now)),
      )

  pub begins_later : (came more bytes : List ℕ) → Begins came bytes → Begins (came ++ more) bytes
  begins_later came more bytes begins = λ rest long.
      let one = append_assoc came more rest in
      let at = begins (more ++ rest) (ap length (sym one) ∙ long) in
      (at.0, ap whole_of one ∙ at.1)

  -- it is all of it
  pub begins_all : (bytes : List ℕ) → length bytes ≡ s.size → Begins bytes (whole_of bytes)
  begins_all bytes all = λ rest long.
      let none : rest ≡ [] = nil_from_length rest (omega (arith, all, long, length-append bytes rest)) in
      ([], ap whole_of (ap (λ xs. bytes ++ xs) none ∙ append-nil bytes) ∙ sym (append-nil (whole_of bytes)))

-- a sound that can't be joined is refused before anything is written
pub refused_first : {W : Type 0} (held : W → Option (List ℕ)) (first now : JoiningSink W) (s : Sound) (came : List ℕ) → now ≡ first → (CanBeJoined first.around s → ⊥) → RefusesJoining held first now s came FileRefused
refused_first held first now s came is none = record {
  reference = ap (λ (k : JoiningSink _). k.playing.ghost_name) is;
  same = ap (λ (k : JoiningSink _). k.playing.now.outlet.ghost_name) is;
  fault = none;
  unwritten = λ early. absurd early;
  written = inl (ap (λ (k : JoiningSink _). outlet_writer k.playing.now.outlet.now) is);
  failures = omega (arith, ap (λ (k : JoiningSink _). outlet_failures k.playing.now.outlet.now) is);
}

-- a fault of the joined sound is one of the sound between its neighbours
pub joined_fault : (head : WaveHead) (d : Decimator) (around : Neighbours) (s j : Sound) → IsJoined around s j → 8 ≤ d.factor → (f : StreamFault) → IsPlayingFault d j (own_range head d around s) f → IsJoiningFault head d around s f
joined_fault head d around s j is least FileRefused h =
    let ordered = own_ordered d around s j is least in
    elim h [
      | inl turned ↦ absurd (omega (arith, turned, ordered.0))
      | inr past ↦ absurd (omega (arith, past, ordered.1))
    ]
joined_fault head d around s j is least RateNotDivided h = ((j, is), subst (λ (t : Sound). t.rate % d.factor ≢ 0) is.is h)
joined_fault head d around s j is least TooLarge h = ((j, is), subst (λ (t : Sound). t.rate % d.factor ≡ 0) is.is h.1, subst (λ (t : Sound). limit_of head ≤ size_in head t.channels d.width (own_number d around s)) is.is h.2)
joined_fault head d around s j is least ReadFailed h = absurd h
joined_fault head d around s j is least WriteFailed h = tt
joined_fault head d around s j is least TurnLimit h = absurd h
joined_fault head d around s j is least Memory h = tt

-- a fault of writing is one of any sound
pub writing_joining : (head : WaveHead) (d : Decimator) (around : Neighbours) (s : Sound) (f : StreamFault) → IsWritingFault f → IsJoiningFault head d around s f
writing_joining head d around s f h = by_writing (IsJoiningFault head d around s) tt tt f h

-- a sink that has some bytes
pub written_joining : {W : Type 0} (held : W → Option (List ℕ)) (first now : JoiningSink W) (s : Sound) (done : ℕ) (came : List ℕ) → IsFed s done came → IsJoining held first now s done came → WritesJoined held first now s came
written_joining held first now s done came fed is =
    written_after held first s is.joined is.is_joined fed.is_sound now came (first.around.before.now ++ in_frames s done came) (begins_at held first s is.joined is.is_joined fed.is_sound done came fed) is.playing

-- ---- the next part of a sound
module _ {W : Type 0} (held : W → Option (List ℕ)) (first old new : JoiningSink W) (part : SoundPart) (before bytes : List ℕ) (fed : IsFed part.sound part.done before) (is : IsJoining held first old part.sound part.done before)
    (long : length bytes ≡ sound_size part.sound.interleaving part.sound.channels part.bits) where
  -- it was refused where it was played
  pub refused_part : (piece : List ℕ) (f : StreamFault) → IsWritingFault f → piece ≡ framed part.sound.interleaving part.sound.channels part.bits bytes → new.playing.ghost_name ≡ old.playing.ghost_name
      → RefusesPlaying held (with_range first.playing.now (own_range first.playing.now.range.head first.playing.now.taps.now first.around part.sound)) new.playing.now is.joined ((first.around.before.now ++ in_frames part.sound part.done before) ++ piece) f
      → RefusesJoining held first new part.sound (before ++ bytes) f
  refused_part piece f fault piece_is reference refuses =
      let s = part.sound in
      let all : (first.around.before.now ++ in_frames s part.done before) ++ piece ≡ first.around.before.now ++ in_frames s (part.done + part.bits) (before ++ bytes)
      = append_assoc first.around.before.now (in_frames s part.done before) piece
      ∙ ap (λ xs. first.around.before.now ++ (in_frames s part.done before ++ xs)) piece_is
      ∙ ap (λ xs. first.around.before.now ++ xs) (sym (framed_join s.interleaving s.channels part.done part.bits before bytes (fed.groups (omega (arith, part.within, part.some))) fed.size long)) in
      let own = with_range first.playing.now (own_range first.playing.now.range.head first.playing.now.taps.now first.around s) in
      refused_after held first s is.joined is.is_joined fed.is_sound new (before ++ bytes) (first.around.before.now ++ in_frames s (part.done + part.bits) (before ++ bytes)) f
      (begins_at held first s is.joined is.is_joined fed.is_sound (part.done + part.bits) (before ++ bytes) (fed_on part before fed bytes long)) (reference ∙ is.reference)
      (writing_joining first.playing.now.range.head first.playing.now.taps.now first.around s f fault)
      (subst (λ xs. RefusesPlaying held own new.playing.now is.joined xs f) all refuses)

  -- memory ran out before that
  pub kept_part : new.playing.ghost_name ≡ old.playing.ghost_name → new.playing.now ≡ old.playing.now → RefusesJoining held first new part.sound (before ++ bytes) Memory
  kept_part reference same =
      let s = part.sound in
      let plays = subst (λ p. IsPlaying held (with_range first.playing.now (own_range first.playing.now.range.head first.playing.now.taps.now first.around s)) p is.joined (first.around.before.now ++ in_frames s part.done before)) (sym same) is.playing in
      record {
        reference = reference ∙ is.reference;
        same = plays.feeding.same;
        fault = tt;
        unwritten = λ early. absurd early;
        written = written_after held first s is.joined is.is_joined fed.is_sound new (before ++ bytes) (first.around.before.now ++ in_frames s part.done before)
            (begins_later held first s is.joined is.is_joined fed.is_sound before bytes (first.around.before.now ++ in_frames s part.done before) (begins_at held first s is.joined is.is_joined fed.is_sound part.done before fed))
            plays;
        failures = omega (arith, plays.feeding.failures);
      }

-- ---- what is played of a file that begins so
some_same : {xs ys : List ℕ} → Some xs ≡ Some ys → xs ≡ ys
some_same e = cc

module _ {W : Type 0} (first : JoiningSink W) (s j : Sound) (is : IsJoined first.around s j) (law : PartIsPlayed) (least : 8 ≤ first.playing.now.taps.now.factor) where
  pub joined_text : (came file bytes : List ℕ) → BeginsSound s came file → length came ≤ s.size → PlaysAround first file bytes → (rest : List ℕ) × (length (came ++ rest) ≡ s.size) × (bytes ≡ joined_file first s j (came ++ rest))
  joined_text came file bytes begins few plays =
      let d = first.playing.now.taps.now in
      let head = first.playing.now.range.head in
      let around = first.around in
      let r = plays.recording in
      let holds : HoldsRecording (begins.prefix ++ begins.rest) r = subst (λ f. HoldsRecording f r) begins.file_is plays.file_holds in
      let has = begins.states.has begins.rest r holds in
      let sound = begins.states.is_sound in
      let ahead = drop s.start begins.prefix in
      let rest = take (s.size - length came) begins.more in
      let at : sound_bytes (begins.prefix ++ begins.rest) s ≡ take s.size (ahead ++ begins.rest) = ap (take s.size) (drop-append-le s.start begins.prefix begins.rest begins.states.within) in
      let whole : take s.size (ahead ++ begins.rest) ≡ came ++ rest = ap (take s.size) begins.sound_is ∙ whole_is s.size came begins.more ∙ ap (λ zs. zs ++ take (s.size - length zs) begins.more) (take_all s.size came few) in
      let long : length (came ++ rest) ≡ s.size = ap length (sym whole) ∙ omega (arith, length-take s.size (ahead ++ begins.rest), has.in_file, begins.states.within, length-append begins.prefix begins.rest, length-append ahead begins.rest, length-drop s.start begins.prefix) in
      let channels : r.channels ≡ sound_channels s.interleaving s.channels s.count (came ++ rest) = has.channels ∙ ap (sound_channels s.interleaving s.channels s.count) (at ∙ whole) in
      let start = frame_after d (bits_before around) in
      let stop = frame_after d (bits_before around + s.count) in
      let (ordered, inside) = own_ordered d around s j is least in
      let before_count : count_of (channels_before around) ≡ bits_before around = neighbour_count around.before.now around.channels (subst (λ m. 1 ≤ m) is.channels sound.some_channel) is.before_whole in
      let text : text_in head (part_pcm (record r { channels = joined (channels_before around) r.channels (channels_after around) }) d start stop) ≡ Some bytes
      = ap₂ (λ a b. text_in head (part_pcm (record r { channels = joined (channels_before around) r.channels (channels_after around) }) d (frame_after d a) (frame_after d b))) (sym before_count) (ap₂ (λ a b. a + b) (sym before_count) (sym has.count)) ∙ plays.text in (
        rest,
        long,
        elim (cases_lt (size_in head j.channels d.width (stop - start)) (limit_of head)) [
          | inl fits ↦ some_same (sym text ∙ text_is around s j is sound (came ++ rest) long r has.rate channels law head d least start stop ordered inside fits)
          | inr large ↦ (let none = sym text ∙ text_none around s j is sound (came ++ rest) long r has.rate channels law head d least start stop ordered inside large in absurd cc)
        ],
      )

-- ---- a file that is not played to its end
module _ {W : Type 0} (held : W → Option (List ℕ)) (old new : JoiningSink W) (law : PartIsPlayed) (least : 8 ≤ old.playing.now.taps.now.factor) where
  abbrev was : Option (List ℕ)
  was = held (outlet_writer old.playing.now.outlet.now)

  abbrev now : Option (List ℕ)
  now = held (outlet_writer new.playing.now.outlet.now)

  pub writes_prefix : (left : Option (List ℕ)) (s : Sound) (came : List ℕ) → IfSome left (BeginsSound s came) → length came ≤ s.size → WritesJoined held old new s came → WritesPrefix left (PlaysAround old) was now
  writes_prefix left s came begins few (inl same) = subst (λ w. WritesPrefix left (PlaysAround old) was (held w)) (sym same) (none_prefix left (PlaysAround old) was)
  writes_prefix None s came begins few (inr h) = tt
  writes_prefix (Some file) s came begins few (inr (j, is, prefix)) = λ bytes plays.
      let text = joined_text old s j is law least came file bytes begins few plays in
      subst (AppendsPrefix was now) (sym text.2) (prefix text.0 text.1)

  -- the reading stopped, or the sink refused the sound
  abbrev pub Stops : Option (List ℕ) → ℕ → ℕ → StreamFault → Type 0
  Stops left g h f = StopsTaking (λ a b s done bytes. IsJoining held a b s done bytes) (λ a b s came e. RefusesJoining held a b s came e) left g h old new f

  abbrev Fails : Option (List ℕ) → StreamFault → Type 0
  Fails left f = BetweenFails held left old.playing.now.range.head old.playing.now.taps.now old.around old.playing.now.outlet.now new.playing.now.outlet.now f

  abbrev applies : Option (List ℕ) → StreamFault → Type 0
  applies left f = AppliesBetweenBy left old.playing.now.range.head old.playing.now.taps.now old.around f

  outline_applies : (left : Option (List ℕ)) (f : StreamFault) → IsOutlineFault left f → applies left f
  outline_applies None f h = tt
  outline_applies (Some xs) FileRefused h = inl h
  outline_applies (Some xs) RateNotDivided h = absurd h
  outline_applies (Some xs) TooLarge h = absurd h
  outline_applies (Some xs) ReadFailed h = tt
  outline_applies (Some xs) WriteFailed h = tt
  outline_applies (Some xs) TurnLimit h = tt
  outline_applies (Some xs) Memory h = tt

  first_begins : (s : Sound) (came file : List ℕ) → BeginsSound s came file → BeginsSound s [] file
  first_begins s came file begins = record {
    prefix = begins.prefix;
    rest = begins.rest;
    file_is = begins.file_is;
    states = begins.states;
    more = came ++ begins.more;
    sound_is = begins.sound_is;
  }

  joining_applies : (left : Option (List ℕ)) (s : Sound) (came : List ℕ) → IfSome left (BeginsSound s came) → (f : StreamFault) → IsJoiningFault old.playing.now.range.head old.playing.now.taps.now old.around s f → applies left f
  joining_applies None s came begins f h = tt
  joining_applies (Some xs) s came begins FileRefused h = inr (s, first_begins s came xs begins, h)
  joining_applies (Some xs) s came begins RateNotDivided h = (s, first_begins s came xs begins, h)
  joining_applies (Some xs) s came begins TooLarge h = (s, first_begins s came xs begins, h)
  joining_applies (Some xs) s came begins ReadFailed h = tt
  joining_applies (Some xs) s came begins WriteFailed h = tt
  joining_applies (Some xs) s came begins TurnLimit h = tt
  joining_applies (Some xs) s came begins Memory h = tt

  pub joined_fails : (left : Option (List ℕ)) (g h : ℕ) (f : StreamFault) → Stops left g h f → IsSameOutlet old new × Fails left f
  joined_fails left g h f (inl none) = (
    (ap (λ (k : JoiningSink W). k.playing.ghost_name) none.same, ap (λ (k : JoiningSink W). k.playing.now.outlet.ghost_name) none.same),
    record {
      fault = outline_applies left f none.fault;
      unwritten = λ early. ap (λ (k : JoiningSink W). outlet_writer k.playing.now.outlet.now) none.same;
      prefix = subst (λ (k : JoiningSink W). WritesPrefix left (PlaysAround old) was (held (outlet_writer k.playing.now.outlet.now))) (sym none.same) (none_prefix left (PlaysAround old) was);
      failures = omega (arith, ap (λ (k : JoiningSink W). outlet_failures k.playing.now.outlet.now) none.same, outline_unwritten (Unit {0}) left f none.fault);
    },
  )
  joined_fails left g h f (inr some) = elim some.how [
    | inl ends ↦ (
      (ends.taken.reference, ends.taken.playing.feeding.same),
      record {
        fault = outline_applies left f ends.fault;
        unwritten = λ early. absurd (outline_later left f ends.fault early);
        prefix = writes_prefix left some.sound some.came some.begins some.few (written_joining held old new some.sound ends.done some.came ends.fed ends.taken);
        failures = omega (arith, ends.taken.playing.feeding.failures, outline_unwritten (Unit {0}) left f ends.fault);
      },
    )
    | inr refuses ↦ (
      (refuses.refuses.reference, refuses.refuses.same),
      record {
        fault = joining_applies left some.sound some.came some.begins f refuses.refuses.fault;
        unwritten = refuses.refuses.unwritten;
        prefix = writes_prefix left some.sound some.came some.begins some.few refuses.refuses.written;
        failures = refuses.refuses.failures;
      },
    )
  ]

-- nothing was read, as no further failure could be counted
pub untouched : {W : Type 0} (held : W → Option (List ℕ)) (left : Option (List ℕ)) (head : WaveHead) (d : Decimator) (around : Neighbours) (outlet : Outlet W) → BetweenFails held left head d around outlet outlet TurnLimit
untouched held left head d around outlet = record {
  fault = by left;
  unwritten = λ early. absurd early;
  prefix = none_prefix left (PlaysBetween head d around.rate (channels_before around) (channels_after around)) (held (outlet_writer outlet));
  failures = omega arith;
}
  where
    by : (o : Option (List ℕ)) → AppliesBetweenBy o head d around TurnLimit
    by None = tt
    by (Some file) = tt

-- all was read, but the sink refused to end
module _ {W : Type 0} (held : W → Option (List ℕ)) (old mid new : JoiningSink W) (o : Surroundings) (stated : AreStated o) where
  pub end_stops : {R : Type 0} (left : R → Option (List ℕ)) (i j : Inlet R) → TakesGiven (λ s done bytes. IsJoining held old mid s done bytes) left i j o → (g h : ℕ) (f : StreamFault) → IsWritingFault f → RefusesEnd held mid new o.sound f
      → StopsTaking (λ a b s done bytes. IsJoining held a b s done bytes) (λ a b s came e. RefusesJoining held a b s came e) (left (inlet_reader i)) g h old new f
  end_stops left i j (read, reads, taken) g h f fault ends = inr (record {
    sound = o.sound;
    came = taken.0;
    few = omega (arith, taken.1.sound_long);
    begins = by (left (inlet_reader i)) (left (inlet_reader j)) reads.consumed;
    how = inr (record { own = writing_own f fault; refuses = ends old taken.0 taken.2 taken.1.sound_long });
  })
    where
      by : (p q : Option (List ℕ)) → Consumes p q read → IfSome p (BeginsSound o.sound taken.0)
      by None q consumed = tt
      by (Some xs) None consumed = absurd consumed
      by (Some xs) (Some ys) consumed = subst (BeginsSound o.sound taken.0) (sym consumed) (begins_held o stated read taken.0 taken.1 ys)

-- the sink refuses a file itself only for a sound that can't be joined
pub unjoined : {W : Type 0} (held : W → Option (List ℕ)) (old new : JoiningSink W) (u : Unread) → IsExactUnless (RefusesFile (λ a b s came e. RefusesJoining held a b s came e) old new) u → IsExactUnless (IsUnjoinedBySome old.around) u
unjoined held old new u exact is = let refused = exact is in (refused.0, refused.2.fault)

-- ---- a sink with all bytes of a sound that refuses to end
module _ {W : Type 0} (held : W → Option (List ℕ)) (first now new : JoiningSink W) (s : Sound) (bytes : List ℕ) (is_sound : IsSound s) (is : IsJoining held first now s s.count bytes) (long : length bytes ≡ s.size) where
  abbrev came : List ℕ
  came = first.around.before.now ++ in_frames s s.count bytes

  abbrev whole : List ℕ
  whole = first.around.before.now ++ (in_frames s s.count bytes ++ first.around.after.now)

  all_bytes : came ++ now.around.after.now ≡ whole
  all_bytes = ap (λ (a : Neighbours). came ++ a.after.now) is.around ∙ append_assoc first.around.before.now (in_frames s s.count bytes) first.around.after.now

  -- it can be joined, as it was before
  pub joined_still : (CanBeJoined now.around s → ⊥) → ⊥
  joined_still none = none (is.joined, subst (λ (a : Neighbours). IsJoined a s is.joined) (sym is.around) is.is_joined)

  pub end_refused : (j : Sound) → IsJoined first.around s j → (f : StreamFault) → IsWritingFault f → new.playing.ghost_name ≡ now.playing.ghost_name → RefusesPlaying held (with_range first.playing.now (own_range first.playing.now.range.head first.playing.now.taps.now first.around s)) new.playing.now j whole f → RefusesJoining held first new s bytes f
  end_refused j also f fault reference refuses =
      refused_after held first s j also is_sound new bytes whole f (begins_all held first s j also is_sound bytes long) (reference ∙ is.reference)
      (writing_joining first.playing.now.range.head first.playing.now.taps.now first.around s f fault) refuses

  pub after_refused : (f : StreamFault) → IsWritingFault f → new.playing.ghost_name ≡ now.playing.ghost_name → RefusesPlaying held (with_range first.playing.now (own_range first.playing.now.range.head first.playing.now.taps.now first.around s)) new.playing.now is.joined (came ++ now.around.after.now) f → RefusesJoining held first new s bytes f
  after_refused f fault reference refuses =
      end_refused is.joined is.is_joined f fault reference
      (subst (λ xs. RefusesPlaying held (with_range first.playing.now (own_range first.playing.now.range.head first.playing.now.taps.now first.around s)) new.playing.now is.joined xs f) all_bytes refuses)
