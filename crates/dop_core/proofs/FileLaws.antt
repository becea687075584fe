-- A file that is read into a sink which plays it as DoP samples.
use Rattle.std.proofs.Common.{◌≡◌, ℕ, ◌+◌, ◌-◌, ◌*◌, ◌%◌, ◌^◌, ◌<◌, ◌≤◌, inl, inr, List, [], ◌++◌, length, Option, None, Some, IfSome, Err, refl, sym, subst, ap, ◌∙◌, arith, append_assoc, append-nil, eq-eqb, ne_eqb, length-append}
use Rattle.std.proofs.lemmas.Bool.{cases_eq, cases_lt}
use Rattle.std.proofs.lemmas.List.{length-replicate, nil_from_length}
use Rattle.std.specs.Io.KnownBytes.{Appends, Consumes}
use Rattle.std.proofs.KnownBytes.{Appends-trans}
use Rattle.chunk_core.specs.Inlets.{inlet_reader}
use Rattle.chunk_core.specs.Outlets.{AppendsPrefix, outlet_failures, outlet_writer}
use Rattle.chunk_core.specs.declared.inlet.Inlet.{Inlet}
use Rattle.dsd_bits.specs.Sounds.{IsSound}
use Rattle.dsd_bits.specs.declared.interleaving.Interleaving.TheVariants.{Bytes}
use Rattle.dsd_bits.specs.declared.sound.Sound.{Sound}
use Rattle.native_core.specs.Native.{NativeHasSize, NativeJoins}
use Rattle.native_core.specs.declared.layout.Layout.TheVariants.{Dop}
use Rattle.sound_core.specs.Faults.{IsBeforeWriting, IsSinkFault, IsWritingFault, StopsReading, failed_writes}
use Rattle.sound_core.specs.Files.{GivesNone, LeadsToSound}
use Rattle.sound_core.specs.Outlines.{AreStated, IsOutlineFault, IsPlacedIn, Surroundings}
use Rattle.sound_core.specs.Sinks.{BeginsSound, IsFed, StopsTaking, TakesFile, TakesGiven, sound_given}
use Rattle.sound_core.specs.declared.fault.StreamFault.{StreamFault}
use Rattle.sound_core.specs.declared.fault.StreamFault.TheVariants.{FileRefused, RateNotDivided, TooLarge, ReadFailed, WriteFailed, TurnLimit, Memory}
use Rattle.sound_core.proofs.FaultLaws.{by_writing}
use Rattle.sound_core.proofs.StatedLaws.{stated_once}
use Rattle.wave_core.specs.Sizes.{pad_size}
use Rattle.wave_core.specs.Texts.{pad_bytes}
use Rattle.dop_core.specs.Playing.{DopAppliesBy, DopKeepsUpBy, DopPlaysFile, DopPlaysGiven, DopWritesPrefix, HasSoundThat, IsNotDivided, IsTooLarge, PlaysDop, WritesSamples}
use Rattle.dop_core.specs.Sinks.{DopFails, IsDopFault, IsDopPlaying, RefusesDop, file_of_sound, head_of_sound, samples_of}
use Rattle.dop_core.specs.Writing.{count_chunk, count_size, dop_file_size, dop_head, dop_tail, frames_of}
use Rattle.dop_core.specs.declared.sink.DopSink.{DopSink}
use Rattle.dop_core.proofs.PlayLaws.{begins_held, file_begins, plays_held, prefix_more, prefix_nil, prefix_on, text_came, whole_prefix, writing_is_own, writing_later}

-- ---- faults around the sound
outline_holds : (left : Option (List ℕ)) (f : StreamFault) → IsOutlineFault left f → DopAppliesBy left f
outline_holds None f h = tt
outline_holds (Some xs) FileRefused h = h
outline_holds (Some xs) RateNotDivided h = absurd h
outline_holds (Some xs) TooLarge h = absurd h
outline_holds (Some xs) ReadFailed h = tt
outline_holds (Some xs) WriteFailed h = absurd h
outline_holds (Some xs) TurnLimit h = tt
outline_holds (Some xs) Memory h = tt

outline_later : (left : Option (List ℕ)) (f : StreamFault) → IsOutlineFault left f → IsBeforeWriting f → ⊥
outline_later left FileRefused h early = early
outline_later left RateNotDivided h early = h
outline_later left TooLarge h early = h
outline_later left ReadFailed h early = early
outline_later left WriteFailed h early = early
outline_later left TurnLimit h early = early
outline_later left Memory h early = early

outline_unwritten : (left : Option (List ℕ)) (f : StreamFault) → IsOutlineFault left f → failed_writes {X = Unit {0}} (Err f) ≡ 0
outline_unwritten left FileRefused h = refl
outline_unwritten left RateNotDivided h = absurd h
outline_unwritten left TooLarge h = absurd h
outline_unwritten left ReadFailed h = refl
outline_unwritten left WriteFailed h = absurd h
outline_unwritten left TurnLimit h = refl
outline_unwritten left Memory h = refl

-- ---- faults of the sink
-- one of its own doesn't stop the reading
own_goes_on : (f : StreamFault) → IsSinkFault f → StopsReading f → ⊥
own_goes_on FileRefused h stops = stops
own_goes_on RateNotDivided h stops = stops
own_goes_on TooLarge h stops = stops
own_goes_on ReadFailed h stops = h
own_goes_on WriteFailed h stops = stops
own_goes_on TurnLimit h stops = h
own_goes_on Memory h stops = stops

module _ (s : Sound) (came : List ℕ) where
  sound_that : (P : Sound → Type 0) (file : List ℕ) → BeginsSound s came file → P s → HasSoundThat P file
  sound_that P file begins is = record { prefix = begins.prefix; rest = begins.rest; sound = s; file_is = begins.file_is; states = begins.states; is_so = is }

  own_holds : (left : Option (List ℕ)) (f : StreamFault) → IfSome left (BeginsSound s came) → IsDopFault s f → DopAppliesBy left f
  own_holds None f begins h = tt
  own_holds (Some file) FileRefused begins h = absurd h
  own_holds (Some file) RateNotDivided begins h = sound_that IsNotDivided file begins h
  own_holds (Some file) TooLarge begins h = sound_that IsTooLarge file begins h
  own_holds (Some file) ReadFailed begins h = absurd h
  own_holds (Some file) WriteFailed begins h = tt
  own_holds (Some file) TurnLimit begins h = absurd h
  own_holds (Some file) Memory begins h = tt

-- the sink never refuses a file itself
pub never_refused : {W : Type 0} (held : W → Option (List ℕ)) (first now : DopSink W) → ((s : Sound) × (came : List ℕ) × RefusesDop held first now s came FileRefused) → ⊥
never_refused held first now (s, came, refused) = refused.fault

-- ---- how long the header is
head_long : (rate channels count : ℕ) → length (dop_head rate channels count) ≡ 68
head_long rate channels count = refl

-- ---- a file that is not taken to its end
module _ {W : Type 0} (held : W → Option (List ℕ)) (first new : DopSink W) (law : NativeJoins) (sizes : NativeHasSize) where
  abbrev a : Option (List ℕ)
  a = held (outlet_writer first.outlet.now)

  abbrev b : Option (List ℕ)
  b = held (outlet_writer new.outlet.now)

  abbrev pub Stops : Option (List ℕ) → ℕ → ℕ → StreamFault → Type 0
  Stops left g h f = StopsTaking (λ x y s done bytes. IsDopPlaying held x y s done bytes) (λ x y s came e. RefusesDop held x y s came e) left g h first new f

  stops_fault : (left : Option (List ℕ)) (g h : ℕ) (f : StreamFault) → Stops left g h f → DopAppliesBy left f
  stops_fault left g h f (inl none) = outline_holds left f none.fault
  stops_fault left g h f (inr some) = elim some.how [
    | inl ends ↦ outline_holds left f ends.fault
    | inr refuses ↦ own_holds some.sound some.came left f some.begins refuses.refuses.fault
  ]

  stops_unwritten : (left : Option (List ℕ)) (g h : ℕ) (f : StreamFault) → Stops left g h f → IsBeforeWriting f → outlet_writer new.outlet.now ≡ outlet_writer first.outlet.now
  stops_unwritten left g h f (inl none) early = absurd (outline_later left f none.fault early)
  stops_unwritten left g h f (inr some) early = elim some.how [
    | inl ends ↦ absurd (outline_later left f ends.fault early)
    | inr refuses ↦ refuses.refuses.unwritten early
  ]

  stops_prefix : (left : Option (List ℕ)) (g h : ℕ) (f : StreamFault) → Stops left g h f → DopWritesPrefix left a b
  stops_prefix None g h f stops = tt
  stops_prefix (Some file) g h f (inl none) = λ bytes plays.
      subst (λ (k : DopSink W). AppendsPrefix a (held (outlet_writer k.outlet.now)) bytes) (sym none.same) (prefix_nil a bytes)
  stops_prefix (Some file) g h f (inr some) = λ bytes plays.
      let s = some.sound in
      let text = text_came s some.came file bytes some.begins some.few plays in
      subst (AppendsPrefix a b) (sym text.is) (elim some.how [
        | inl ends ↦ (
            let more = file_begins law s ends.done some.came text.rest ends.fed text.long in
            let head = head_of_sound s ++ samples_of s ends.done some.came in
            subst (AppendsPrefix a b) (sym more.1) (prefix_more a b head more.0 (whole_prefix a b head ends.taken.written)))
        | inr refuses ↦ refuses.refuses.prefix text.rest text.long
      ])

  stops_counted : (left : Option (List ℕ)) (g h : ℕ) (f : StreamFault) → Stops left g h f → outlet_failures new.outlet.now ≡ outlet_failures first.outlet.now + failed_writes {X = Unit {0}} (Err f)
  stops_counted left g h f (inl none) = omega (arith, ap (λ (k : DopSink W). outlet_failures k.outlet.now) none.same, outline_unwritten left f none.fault)
  stops_counted left g h f (inr some) = elim some.how [
    | inl ends ↦ omega (arith, ends.taken.failures, outline_unwritten left f ends.fault)
    | inr refuses ↦ refuses.refuses.failures
  ]

  pub stops_same : (left : Option (List ℕ)) (g h : ℕ) (f : StreamFault) → Stops left g h f → new.outlet.ghost_name ≡ first.outlet.ghost_name
  stops_same left g h f (inl none) = ap (λ (k : DopSink W). k.outlet.ghost_name) none.same
  stops_same left g h f (inr some) = elim some.how [
    | inl ends ↦ ends.taken.same
    | inr refuses ↦ refuses.refuses.same
  ]

  -- what came before the reading stopped
  keeps_came : (s : Sound) (came : List ℕ) (few : length came ≤ s.size) (done : ℕ) → IsFed s done came → IsDopPlaying held first new s done came → (left : Option (List ℕ)) (given : ℕ) → IfSome left (BeginsSound s came) → sound_given s given ≤ length came + 65536
      → DopKeepsUpBy left given a b
  keeps_came s came few done fed is None given begins pace = tt
  keeps_came s came few done fed is (Some file) given begins pace = λ bytes t plays stated much.
      let text = text_came s came file bytes begins few plays in
      let more = file_begins law s done came text.rest fed text.long in
      let same : t ≡ s = stated_once begins.prefix begins.rest s t begins.states (subst (λ f. LeadsToSound f t) begins.file_is stated) in
      let head = head_of_sound s in
      let made = samples_of s done came in
      let whole : s.interleaving ≡ Bytes → done % 8 ≡ 0 = λ e. elim (cases_lt done s.count) [
        | inl less ↦ (let groups = fed.groups less in omega (arith, groups))
        | inr all ↦ (let is_all : done ≡ s.count = omega (arith, all, fed.within) in ap (λ m. m % 8) is_all ∙ fed.whole e)
      ] in
      let long : length made ≡ frames_of done * (3 * s.channels) = sizes Dop s.interleaving s.channels done came fed.is_sound.some_channel fed.size whole in
      subst (λ (z : Sound). WritesSamples z (sound_given z given - 65536) bytes a b) (sym same) (record {
        prefix = head ++ made;
        back = more.0;
        parts = text.is ∙ more.1;
        written = is.written;
        done = done;
        near = omega (arith, pace, fed.size);
        size = omega (arith, length-append head made, head_long s.rate s.channels s.count, long);
      })

  keeps_none : (left : Option (List ℕ)) (g h : ℕ) → GivesNone left g h → DopKeepsUpBy left (h - g) a b
  keeps_none None g h none = tt
  keeps_none (Some file) g h none = λ bytes s plays stated much. let before = none s (plays.recording, plays.file_holds) stated in absurd (omega (arith, before, much))

  stops_lag : (left : Option (List ℕ)) (g h : ℕ) (f : StreamFault) → Stops left g h f → StopsReading f → DopKeepsUpBy left (h - g) a b
  stops_lag left g h f (inl none) stops = keeps_none left g h (none.none stops)
  stops_lag left g h f (inr some) stops = elim some.how [
    | inl ends ↦ keeps_came some.sound some.came some.few ends.done ends.fed ends.taken left (h - g) some.begins (ends.pace stops)
    | inr refuses ↦ absurd (own_goes_on f refuses.own stops)
  ]

  pub stops_playing : {R : Type 0} (left : R → Option (List ℕ)) (i : Inlet R) (g h : ℕ) (f : StreamFault) → Stops (left (inlet_reader i)) g h f → DopFails left held i (h - g) first new f
  stops_playing left i g h f stops = record {
    fault = stops_fault (left (inlet_reader i)) g h f stops;
    unwritten = stops_unwritten (left (inlet_reader i)) g h f stops;
    prefix = stops_prefix (left (inlet_reader i)) g h f stops;
    keeps_up = stops_lag (left (inlet_reader i)) g h f stops;
    failures = stops_counted (left (inlet_reader i)) g h f stops;
  }

-- ---- how long a file is
pub count_long : (count : ℕ) → length (count_chunk count) ≡ count_size count
count_long count = elim (cases_eq (count % 16) 0) [
  | inl none ↦ rw (eq-eqb (count % 16) 0 none) refl
  | inr some ↦ rw (ne_eqb (count % 16) 0 some) refl
]

file_long : NativeHasSize → (s : Sound) (bytes : List ℕ) → IsSound s → (s.interleaving ≡ Bytes → s.count % 8 ≡ 0) → length bytes ≡ s.size → length (file_of_sound s bytes) ≡ dop_file_size s.channels s.count
file_long law s bytes is whole long =
    let head = head_of_sound s in
    let made = samples_of s s.count bytes in
    let pad = pad_bytes s.channels 24 (frames_of s.count) in
    let three : 3 * s.channels ≡ s.channels * 3 = omega arith in
    let size : length made ≡ frames_of s.count * (s.channels * 3) = law Dop s.interleaving s.channels s.count bytes is.some_channel (long ∙ is.size) whole ∙ ap (λ k. frames_of s.count * k) three in
    omega (arith, length-append head (made ++ dop_tail s.channels s.count), length-append made (dop_tail s.channels s.count), length-append pad (count_chunk s.count), head_long s.rate s.channels s.count, size, length-replicate {A = ℕ} (pad_size s.channels 24 (frames_of s.count)) 0, count_long s.count)

-- ---- a file that was taken, and whose end is written
module _ {W : Type 0} (held : W → Option (List ℕ)) (first mid : DopSink W) (o : Surroundings) (stated : AreStated o) where
  abbrev has : Sound → ℕ → List ℕ → Type 0
  has s done bytes = IsDopPlaying held first mid s done bytes

  abbrev begun : Option (List ℕ)
  begun = held (outlet_writer first.outlet.now)

  abbrev after_sound : Option (List ℕ)
  after_sound = held (outlet_writer mid.outlet.now)

  abbrev tail : List ℕ
  tail = dop_tail o.sound.channels o.sound.count

  module _ (law : NativeHasSize) (n : ℕ) (size : n ≡ dop_file_size o.sound.channels o.sound.count) (ended : Option (List ℕ)) (out : Appends after_sound ended tail) where
    abbrev all_played : List ℕ → Type 0
    all_played file = (bytes : List ℕ) × PlaysDop file bytes × (n ≡ length bytes) × Appends begun ended bytes

    held_played : (file sound : List ℕ) → IsPlacedIn o file sound → has o.sound o.sound.count sound → all_played file
    held_played file sound stands is =
        let head = head_of_sound o.sound in
        let made = samples_of o.sound o.sound.count sound in (
          file_of_sound o.sound sound,
          plays_held o stated file sound stands is.divided is.fits,
          size ∙ sym (file_long law o.sound sound stated.is_sound stated.whole stands.sound_long),
          subst (Appends begun ended) (append_assoc head made tail) (Appends-trans begun after_sound ended (head ++ made) tail is.written out),
        )

    pub file_played : (left : Option (List ℕ)) → TakesFile has left o → DopPlaysFile left begun ended n
    file_played None (taken, h) = tt
    file_played (Some file) (taken, h) = held_played file h.0 h.1 h.2

    pub given_played : {R : Type 0} (left : R → Option (List ℕ)) (i j : Inlet R) → TakesGiven has left i j o → DopPlaysGiven left i j begun ended n
    given_played left i j (read, reads, h) = (let all = held_played read h.0 h.1 h.2 in (read, all.0, reads, all.1, all.2, all.3))

  -- what holds of the sink then
  pub record IsTaken : Type 0 where
    pub same : mid.outlet.ghost_name ≡ first.outlet.ghost_name
    pub ready : outlet_failures mid.outlet.now < 2 ^ 64 - 1
    pub failures : outlet_failures mid.outlet.now ≡ outlet_failures first.outlet.now

  pub is_taken : {R : Type 0} (left : R → Option (List ℕ)) (i j : Inlet R) → TakesGiven has left i j o → IsTaken
  is_taken left i j (read, reads, taken) = (let is = taken.2 in record { same = is.same; ready = omega (arith, is.ready, is.failures); failures = is.failures })

  -- a prefix of the end was written
  module _ (new : DopSink W) where
    abbrev ended : Option (List ℕ)
    ended = held (outlet_writer new.outlet.now)

    pub end_fails : {R : Type 0} (left : R → Option (List ℕ)) (i j : Inlet R) (g h : ℕ) (f : StreamFault) → NativeJoins → NativeHasSize → TakesGiven has left i j o → new.outlet.ghost_name ≡ mid.outlet.ghost_name → IsWritingFault f
        → AppendsPrefix after_sound ended tail → outlet_failures new.outlet.now ≡ outlet_failures mid.outlet.now + failed_writes {X = Unit {0}} (Err f) → DopFails left held i (h - g) first new f
    end_fails left i j g h f law sizes (read, reads, taken) reference fault out failures = stops_playing held first new law sizes left i g h f (inr (record {
      sound = o.sound;
      came = taken.0;
      few = omega (arith, taken.1.sound_long);
      begins = by (left (inlet_reader i)) (left (inlet_reader j)) reads.consumed;
      how = inr (record { own = by_writing IsSinkFault tt tt f fault; refuses = refuses });
    }))
      where
        by : (p q : Option (List ℕ)) → Consumes p q read → IfSome p (BeginsSound o.sound taken.0)
        by None q consumed = tt
        by (Some xs) None consumed = absurd consumed
        by (Some xs) (Some ys) consumed = subst (BeginsSound o.sound taken.0) (sym consumed) (begins_held o stated read taken.0 taken.1 ys)

        refuses : RefusesDop held first new o.sound taken.0 f
        refuses =
            let is = taken.2 in
            let sound = taken.0 in
            let head = head_of_sound o.sound in
            let made = samples_of o.sound o.sound.count sound in
            record {
              same = reference ∙ is.same;
              fault = writing_is_own o.sound f fault;
              unwritten = λ early. absurd (writing_later f fault early);
              prefix = λ rest whole.
                  let none : rest ≡ [] = nil_from_length rest (omega (arith, whole, length-append sound rest, taken.1.sound_long)) in
                  let all : file_of_sound o.sound (sound ++ rest) ≡ (head ++ made) ++ tail =
                  ap (λ xs. file_of_sound o.sound (sound ++ xs)) none ∙ ap (file_of_sound o.sound) (append-nil sound) ∙ sym (append_assoc head made tail) in
                  subst (AppendsPrefix begun ended) (sym all) (prefix_on begun after_sound ended (head ++ made) tail is.written out);
              failures = failures ∙ ap (λ k. k + failed_writes {X = Unit {0}} (Err f)) is.failures;
            }
