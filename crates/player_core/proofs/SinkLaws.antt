-- What plays frames of a sound, one piece after the other.
use Rattle.std.proofs.Common.{◌≡◌, ℕ, ◌+◌, ◌-◌, ◌^◌, ◌≤◌, ◌⊎◌, ◌<◌, inl, inr, refl, List, [], ◌++◌, drop, length, slice_range, take, Option, Some, Err, sym, subst, ap, ap₂, ◌∙◌, arith, append_assoc, append-nil, length-append, length-drop}
use Rattle.std.specs.Io.KnownBytes.{Appends}
use Rattle.std.proofs.KnownBytes.{Appends-trans}
use Rattle.std.proofs.Math.Seq.{drop-nil, take-nil}
use Rattle.std.proofs.lemmas.List.{nil_from_length}
use Rattle.chunk_core.specs.Outlets.{AppendsPrefix, outlet_failures, outlet_writer}
use Rattle.dsd_bits.specs.declared.sound.Sound.{Sound}
use Rattle.fir_core.specs.Decimator.{Decimator}
use Rattle.sound_core.specs.Faults.{IsWritingFault, failed_writes}
use Rattle.sound_core.specs.declared.fault.StreamFault.{StreamFault}
use Rattle.player_core.specs.Laws.{file_around, total_frames}
use Rattle.player_core.specs.Pieces.{PutsDue, PutsPrefixOf, PutsRest}
use Rattle.player_core.specs.Parts.{part_bytes}
use Rattle.player_core.specs.Ranges.{IsInside, stop_of}
use Rattle.player_core.specs.Sinks.{FinishesPlaying, IsFeeding, IsPlaying, RefusesPlaying, range_file, range_sound}
use Rattle.player_core.specs.PartView.{IsPartComplete, IsPartFed, IsPartOf, IsPartPlayer, IsSamePart, part_all, part_due, part_fed, part_rest, part_start}
use Rattle.player_core.specs.PlayerView.{filter_of, sound_of}
use Rattle.player_core.specs.Wave.{sound_header, pad_of, wave_file_size}
use Rattle.player_core.specs.declared.parts.PartPlayer.{PartPlayer}
use Rattle.player_core.specs.declared.range.WaveRange.{WaveRange}
use Rattle.player_core.specs.declared.sink.PlayingSink.{PlayingSink}
use Rattle.player_core.proofs.FaultLaws.{writing_later, writing_opening}
use Rattle.player_core.proofs.PieceLaws.{due_same, plays_on, prefix_more, prefix_on}
use Rattle.player_core.proofs.SliceLaws.{drop_more_of}
use Rattle.player_core.proofs.SoundLaws.{few_size, nothing_is_due}

-- the header and what is due are a prefix of the file
pub parted : (head due more pad : List ℕ) → head ++ ((due ++ more) ++ pad) ≡ (head ++ due) ++ (more ++ pad)
parted head due more pad = ap (λ xs. head ++ xs) (append_assoc due more pad) ∙ sym (append_assoc head due (more ++ pad))

-- ---- its player
-- before the first byte nothing of a part is due
pub due_at_first : (p : PartPlayer) → part_due p [] ≡ []
due_at_first p = ap (λ xs. slice_range xs p.skip p.stop) (nothing_is_due (filter_of p.player) (sound_of p.player)) ∙ ap (take (p.stop - p.skip)) (drop-nil p.skip) ∙ take-nil (p.stop - p.skip)

pub record IsPlayerOf (d : Decimator) (s : Sound) (range : WaveRange) (bytes : List ℕ) (p : PartPlayer) : Type 0 where
  pub is_player : IsPartPlayer p
  pub plays : IsPartOf d s range.start (stop_of range (total_frames d s)) p
  pub fed : IsPartFed p (drop (part_start p) bytes)

module _ {W : Type 0} (held : W → Option (List ℕ)) (first old : PlayingSink W) (s : Sound) (bytes : List ℕ) (is : IsFeeding held first old s bytes) (p : PartPlayer) (was : old.player.now ≡ Some p) where
  here : is.player ≡ p
  here = same is.player p (sym is.player_is ∙ was)
    where
      same : (q r : PartPlayer) → (let a : Option PartPlayer = Some q in a) ≡ Some r → q ≡ r
      same q r e = cc

  pub player_of : IsPlayerOf first.taps.now s first.range bytes p
  player_of = subst (IsPlayerOf first.taps.now s first.range bytes) here (record { is_player = is.is_player; plays = is.plays; fed = is.fed })

  abbrev d : Decimator
  d = first.taps.now

  abbrev fs : Sound
  fs = range_sound d s first.range

  abbrev stop : ℕ
  stop = stop_of first.range (total_frames d s)

  abbrev n : ℕ
  n = part_start p

  abbrev a : Option (List ℕ)
  a = held (outlet_writer first.outlet.now)

  abbrev b : Option (List ℕ)
  b = held (outlet_writer old.outlet.now)

  so_far : Appends a b (sound_header first.range.head d fs ++ part_due p (drop n bytes))
  so_far = subst (λ q. Appends a b (sound_header first.range.head d fs ++ part_due q (drop (part_start q) bytes))) here is.written

  -- how many bytes its rest has
  pub rest_long : (xs : List ℕ) → length xs ≡ s.size → length (drop n xs) ≡ (part_rest p).size
  rest_long xs all =
      let by = player_of in
      length-drop n xs ∙ ap₂ (λ m k. m - k) all by.plays.start_is ∙ sym (ap (λ (t : Sound). t.size) by.plays.rest_is)

  pub fed_few : (piece : List ℕ) → length bytes + length piece ≤ s.size → part_fed p + length (drop (part_start p - old.came) piece) ≤ (part_rest p).size
  fed_few piece within =
      let by = player_of in
      omega (arith, within, by.fed.fed.fed, length-drop n bytes, length-drop (n - old.came) piece, is.came, by.plays.start_is, ap (λ (t : Sound). t.size) by.plays.rest_is)

  pub came_few : (piece : List ℕ) → length bytes + length piece ≤ s.size → old.came + length piece ≤ 2 ^ 40
  came_few piece within = omega (arith, within, is.came, is.is_sound.size, few_size s.interleaving s.channels s.count is.is_sound.six_channels is.is_sound.in_limit)

  -- the sound has the frames that are played
  pub range_inside : IsInside old.range (total_frames old.taps.now s)
  range_inside = subst (λ r. IsInside r (total_frames old.taps.now s)) (sym is.range) (subst (λ (e : _). IsInside first.range (total_frames e.now s)) (sym is.taps) is.inside)

  -- the player and the outlet are as they were
  pub stays_fed : (new : PlayingSink W) → new.outlet.ghost_name ≡ old.outlet.ghost_name → new.taps ≡ old.taps → new.range ≡ old.range → new.came ≡ old.came → new.player.now ≡ Some p → new.outlet.now ≡ old.outlet.now → IsFeeding held first new s bytes
  stays_fed new reference taps range came now outlet =
      let by = player_of in
      record {
        same = reference ∙ is.same;
        taps = taps ∙ is.taps;
        range = range ∙ is.range;
        is_sound = is.is_sound;
        divided = is.divided;
        inside = is.inside;
        fits = is.fits;
        player = p;
        player_is = now;
        is_player = by.is_player;
        plays = by.plays;
        fed = by.fed;
        came = came ∙ is.came;
        written = subst (λ o. Appends a (held (outlet_writer o)) (sound_header first.range.head d fs ++ part_due p (drop n bytes))) (sym outlet) so_far;
        ready = is.ready;
        failures = ap outlet_failures outlet ∙ is.failures;
      }

  -- ---- one piece more
  module _ (new : PlayingSink W) (piece : List ℕ) (reference : new.outlet.ghost_name ≡ old.outlet.ghost_name) where
    abbrev c : Option (List ℕ)
    c = held (outlet_writer new.outlet.now)

    abbrev fed_piece : List ℕ
    fed_piece = drop (n - length bytes) piece

    joined : drop n (bytes ++ piece) ≡ drop n bytes ++ fed_piece
    joined = drop_more_of n bytes piece

    pub playing_on : new.taps ≡ old.taps → new.range ≡ old.range → new.came ≡ old.came + length piece → (q : PartPlayer) → new.player.now ≡ Some q → IsPartPlayer q → IsSamePart p q → PutsDue p q (drop (n - old.came) piece) b c → outlet_failures new.outlet.now ≡ outlet_failures old.outlet.now → IsFeeding held first new s (bytes ++ piece)
    playing_on taps range came q now is_player same put failures =
        let puts : PutsDue p q fed_piece b c = subst (λ k. PutsDue p q (drop (n - k) piece) b c) is.came put in
        let by = player_of in
        let on = puts.2 (drop n bytes) by.fed in
        let at : drop (part_start q) (bytes ++ piece) ≡ drop n bytes ++ fed_piece = ap (λ k. drop k (bytes ++ piece)) same.start ∙ joined in
        let due : part_due q (drop (part_start q) (bytes ++ piece)) ≡ part_due p (drop n bytes) ++ puts.0 = due_same p q same (drop (part_start q) (bytes ++ piece)) ∙ ap (part_due p) at ∙ on.1 in
        record {
          same = reference ∙ is.same;
          taps = taps ∙ is.taps;
          range = range ∙ is.range;
          is_sound = is.is_sound;
          divided = is.divided;
          inside = is.inside;
          fits = is.fits;
          player = q;
          player_is = now;
          is_player = is_player;
          plays = plays_on d s first.range.start stop p q same by.plays;
          fed = subst (IsPartFed q) (sym at) on.0;
          came = omega (arith, came, is.came, length-append bytes piece);
          written = subst (Appends a c) (append_assoc (sound_header first.range.head d fs) (part_due p (drop n bytes)) puts.0 ∙ ap (λ xs. sound_header first.range.head d fs ++ xs) (sym due)) (Appends-trans a b c (sound_header first.range.head d fs ++ part_due p (drop n bytes)) puts.0 so_far puts.1);
          ready = is.ready;
          failures = failures ∙ is.failures;
        }

    pub playing_refuses : (f : StreamFault) → IsWritingFault f → PutsPrefixOf p (drop (n - old.came) piece) b c → outlet_failures new.outlet.now ≡ outlet_failures old.outlet.now + failed_writes {X = Unit {0}} (Err f) → RefusesPlaying held first new s (bytes ++ piece) f
    playing_refuses f fault out failures = record {
      same = reference ∙ is.same;
      fault = writing_opening d s first.range f fault;
      unwritten = λ early. absurd (writing_later f fault early);
      prefix = λ rest long.
          let by = player_of in
          let whole = (bytes ++ piece) ++ rest in
          let after = drop (n - length (bytes ++ piece)) rest in
          let all : drop n whole ≡ drop n bytes ++ (fed_piece ++ after) = drop_more_of n (bytes ++ piece) rest ∙ ap (λ xs. xs ++ after) joined ∙ append_assoc (drop n bytes) fed_piece after in
          let put = subst (λ k. PutsPrefixOf p (drop (n - k) piece) b c) is.came out (drop n bytes) after by.fed (ap length (sym all) ∙ rest_long whole long) in
          let part : part_bytes d s whole first.range.start stop ≡ part_due p (drop n bytes) ++ put.0 = sym (by.plays.gives whole long) ∙ ap (part_all p) all ∙ put.1 in
          subst (AppendsPrefix a c) (sym (ap (file_around first.range.head d fs) part ∙ parted (sound_header first.range.head d fs) (part_due p (drop n bytes)) put.0 (pad_of d fs)))
          (prefix_on a b c (sound_header first.range.head d fs ++ part_due p (drop n bytes)) (put.0 ++ pad_of d fs) so_far (prefix_more b c put.0 (pad_of d fs) put.2));
      failures = failures ∙ ap (λ m. m + failed_writes {X = Unit {0}} (Err f)) is.failures;
    }

  -- nothing more came
  pub fed_rest_refuses : (new : PlayingSink W) → new.outlet.ghost_name ≡ old.outlet.ghost_name → (f : StreamFault) → IsWritingFault f → PutsPrefixOf p [] b (held (outlet_writer new.outlet.now)) → outlet_failures new.outlet.now ≡ outlet_failures old.outlet.now + failed_writes {X = Unit {0}} (Err f)
      → RefusesPlaying held first new s bytes f
  fed_rest_refuses new reference f fault out failures =
      subst (λ xs. RefusesPlaying held first new s xs f) (append-nil bytes)
      (playing_refuses new [] reference f fault (subst (λ zs. PutsPrefixOf p zs b (held (outlet_writer new.outlet.now))) (sym (drop-nil (n - old.came))) out) failures)

  -- ---- the end
  module _ (m : Option (List ℕ)) (puts : PutsRest p b m) (over : List ℕ) (long : length (bytes ++ over) ≡ s.size) where
    abbrev whole : List ℕ
    whole = bytes ++ over

    all_put : Appends a m (sound_header first.range.head d fs ++ part_bytes d s whole first.range.start stop)
    all_put =
        let by = player_of in
        let all : drop n whole ≡ drop n bytes ++ drop (n - length bytes) over = drop_more_of n bytes over in
        let due : part_all p (drop n bytes ++ drop (n - length bytes) over) ≡ part_due p (drop n bytes) ++ puts.0 = puts.2 (drop n bytes) (drop (n - length bytes) over) by.fed (ap length (sym all) ∙ rest_long whole long) in
        let part : part_bytes d s whole first.range.start stop ≡ part_due p (drop n bytes) ++ puts.0 = sym (by.plays.gives whole long) ∙ ap (part_all p) all ∙ due in
        subst (Appends a m) (append_assoc (sound_header first.range.head d fs) (part_due p (drop n bytes)) puts.0 ∙ ap (λ xs. sound_header first.range.head d fs ++ xs) (sym part)) (Appends-trans a b m (sound_header first.range.head d fs ++ part_due p (drop n bytes)) puts.0 so_far puts.1)

    module _ (new : PlayingSink W) (reference : new.outlet.ghost_name ≡ old.outlet.ghost_name) (t : Sound) (frames : t ≡ range_sound old.taps.now s old.range) where
      frames_are : t ≡ fs
      frames_are = frames ∙ ap₂ (λ e r. range_sound e.now s r) is.taps is.range

      pad : pad_of old.taps.now t ≡ pad_of d fs
      pad = ap₂ (λ e u. pad_of e.now u) is.taps frames_are

      pub fed_finishes : (size : ℕ) → size ≡ wave_file_size old.range.head old.taps.now t → Appends m (held (outlet_writer new.outlet.now)) (pad_of old.taps.now t) → outlet_failures new.outlet.now ≡ outlet_failures old.outlet.now → FinishesPlaying held first new s whole size
      fed_finishes size is_size out failures = record {
        same = reference ∙ is.same;
        written = subst (Appends a (held (outlet_writer new.outlet.now))) (append_assoc (sound_header first.range.head d fs) (part_bytes d s whole first.range.start stop) (pad_of d fs))
            (Appends-trans a m (held (outlet_writer new.outlet.now)) (sound_header first.range.head d fs ++ part_bytes d s whole first.range.start stop) (pad_of d fs) all_put (subst (Appends m (held (outlet_writer new.outlet.now))) pad out));
        failures = failures ∙ is.failures;
        size = is_size ∙ ap (λ r. wave_file_size r.head old.taps.now t) is.range ∙ ap₂ (λ e u. wave_file_size first.range.head e.now u) is.taps frames_are;
      }

      pub fed_pad_refuses : (f : StreamFault) → IsWritingFault f → AppendsPrefix m (held (outlet_writer new.outlet.now)) (pad_of old.taps.now t) → outlet_failures new.outlet.now ≡ outlet_failures old.outlet.now + failed_writes {X = Unit {0}} (Err f) → RefusesPlaying held first new s whole f
      fed_pad_refuses f fault out failures = record {
        same = reference ∙ is.same;
        fault = writing_opening d s first.range f fault;
        unwritten = λ early. absurd (writing_later f fault early);
        prefix = λ rest all.
            let none : whole ++ rest ≡ whole = ap (λ xs. whole ++ xs) (nil_from_length rest (omega (arith, all, long, length-append whole rest))) ∙ append-nil whole in
            subst (λ xs. AppendsPrefix a (held (outlet_writer new.outlet.now)) (range_file d s first.range xs)) (sym none)
            (subst (AppendsPrefix a (held (outlet_writer new.outlet.now))) (append_assoc (sound_header first.range.head d fs) (part_bytes d s whole first.range.start stop) (pad_of d fs))
            (prefix_on a m (held (outlet_writer new.outlet.now)) (sound_header first.range.head d fs ++ part_bytes d s whole first.range.start stop) (pad_of d fs) all_put (subst (AppendsPrefix m (held (outlet_writer new.outlet.now))) pad out)));
        failures = failures ∙ ap (λ k. k + failed_writes {X = Unit {0}} (Err f)) is.failures;
      }

-- ---- all that came, of which the player was fed the first bytes
pub all_fed : {W : Type 0} (held : W → Option (List ℕ)) (first now : PlayingSink W) (s : Sound) (bytes : List ℕ) → IsFeeding held first now s bytes → IsPlaying held first now s bytes
all_fed held first now s bytes is = record { looked_at = bytes; passed_over = []; bytes_are = sym (append-nil bytes); feeding = is; all_or_complete = inl refl }

module _ {W : Type 0} (held : W → Option (List ℕ)) (first old : PlayingSink W) (s : Sound) (bytes : List ℕ) (is : IsPlaying held first old s bytes) (p : PartPlayer) (was : old.player.now ≡ Some p) where
  its_player : is.feeding.player ≡ p
  its_player = here held first old s is.looked_at is.feeding p was

  pub player_known : IsPartPlayer p
  player_known = subst IsPartPlayer its_player is.feeding.is_player

  looked_at_all : is.passed_over ≡ [] → is.looked_at ≡ bytes
  looked_at_all none = sym (append-nil is.looked_at) ∙ ap (λ xs. is.looked_at ++ xs) (sym none) ∙ sym is.bytes_are

  -- while the part isn't complete, the player was fed all
  pub feeding_all : p.given < p.stop → IsFeeding held first old s bytes
  feeding_all incomplete = elim is.all_or_complete [
    | inl none ↦ subst (IsFeeding held first old s) (looked_at_all none) is.feeding
    | inr complete ↦ (let here : IsPartComplete p = subst IsPartComplete its_player complete in absurd (omega (arith, here, incomplete)))
  ]

  -- once it is, no more is needed
  pub passed_on : IsPartComplete p → (piece : List ℕ) (new : PlayingSink W) → new.outlet.ghost_name ≡ old.outlet.ghost_name → new.taps ≡ old.taps → new.range ≡ old.range → new.came ≡ old.came → new.player.now ≡ Some p → new.outlet.now ≡ old.outlet.now → IsPlaying held first new s (bytes ++ piece)
  passed_on complete piece new reference taps range came now outlet = let on = stays_fed held first old s is.looked_at is.feeding p was new reference taps range came now outlet in record {
    looked_at = is.looked_at;
    passed_over = is.passed_over ++ piece;
    bytes_are = ap (λ xs. xs ++ piece) is.bytes_are ∙ append_assoc is.looked_at is.passed_over piece;
    feeding = on;
    all_or_complete = inr (subst IsPartComplete (sym (here held first new s is.looked_at on p now)) complete);
  }

  pub fed_or_complete : length bytes ≡ s.size → (part_fed p ≡ (part_rest p).size) ⊎ IsPartComplete p
  fed_or_complete long = elim is.all_or_complete [
    | inl none ↦ (
        let by = player_of held first old s is.looked_at is.feeding p was in
        let all = looked_at_all none in
        inl (by.fed.fed.fed ∙ rest_long held first old s is.looked_at is.feeding p was is.looked_at (ap length all ∙ long)))
    | inr complete ↦ inr (subst IsPartComplete its_player complete)
  ]

  -- what is refused of the bytes that the player was fed is refused of all
  refused_of_all : (new : PlayingSink W) (f : StreamFault) → RefusesPlaying held first new s is.looked_at f → RefusesPlaying held first new s bytes f
  refused_of_all new f refused = record {
    same = refused.same;
    fault = refused.fault;
    unwritten = refused.unwritten;
    prefix = λ rest long.
        let on : bytes ++ rest ≡ is.looked_at ++ (is.passed_over ++ rest) = ap (λ xs. xs ++ rest) is.bytes_are ∙ append_assoc is.looked_at is.passed_over rest in
        subst (λ xs. AppendsPrefix (held (outlet_writer first.outlet.now)) (held (outlet_writer new.outlet.now)) (range_file first.taps.now s first.range xs)) (sym on) (refused.prefix (is.passed_over ++ rest) (ap length (sym on) ∙ long));
    failures = refused.failures;
  }

  pub rest_refuses : (new : PlayingSink W) → new.outlet.ghost_name ≡ old.outlet.ghost_name → (f : StreamFault) → IsWritingFault f → PutsPrefixOf p [] (held (outlet_writer old.outlet.now)) (held (outlet_writer new.outlet.now)) → outlet_failures new.outlet.now ≡ outlet_failures old.outlet.now + failed_writes {X = Unit {0}} (Err f)
      → RefusesPlaying held first new s bytes f
  rest_refuses new reference f fault out failures = refused_of_all new f (fed_rest_refuses held first old s is.looked_at is.feeding p was new reference f fault out failures)

  module _ (m : Option (List ℕ)) (puts : PutsRest p (held (outlet_writer old.outlet.now)) m) (long : length bytes ≡ s.size) (new : PlayingSink W) (reference : new.outlet.ghost_name ≡ old.outlet.ghost_name) (t : Sound) (frames : t ≡ range_sound old.taps.now s old.range) where
    whole_long : length (is.looked_at ++ is.passed_over) ≡ s.size
    whole_long = ap length (sym is.bytes_are) ∙ long

    pub all_finishes : (size : ℕ) → size ≡ wave_file_size old.range.head old.taps.now t → Appends m (held (outlet_writer new.outlet.now)) (pad_of old.taps.now t) → outlet_failures new.outlet.now ≡ outlet_failures old.outlet.now → FinishesPlaying held first new s bytes size
    all_finishes size is_size out failures = subst (λ xs. FinishesPlaying held first new s xs size) (sym is.bytes_are) (fed_finishes held first old s is.looked_at is.feeding p was m puts is.passed_over whole_long new reference t frames size is_size out failures)

    pub pad_refuses : (f : StreamFault) → IsWritingFault f → AppendsPrefix m (held (outlet_writer new.outlet.now)) (pad_of old.taps.now t) → outlet_failures new.outlet.now ≡ outlet_failures old.outlet.now + failed_writes {X = Unit {0}} (Err f) → RefusesPlaying held first new s bytes f
    pad_refuses f fault out failures = subst (λ xs. RefusesPlaying held first new s xs f) (sym is.bytes_are) (fed_pad_refuses held first old s is.looked_at is.feeding p was m puts is.passed_over whole_long new reference t frames f fault out failures)
