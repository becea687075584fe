-- What is written of a file of a known outline, and where that ends.
use Rattle.std.proofs.Common.{◌≡◌, ◌≢◌, ℕ, ◌+◌, ◌-◌, ◌^◌, ◌<◌, ◌≤◌, inl, inr, List, [], ◌++◌, length, take, drop, Option, None, Some, IfSome, Result, Ok, Err, IfErr, OnErr, OnOk, refl, sym, subst, ap, ap₂, ◌∙◌, arith, append_assoc, append-nil, length-append, length-take, take-append-drop}
use Rattle.std.proofs.lemmas.Bool.{cases_lt}
use Rattle.std.proofs.lemmas.List.{drop-append-le, nil_from_length}
use Rattle.std.proofs.Math.Seq.{drop-append_seam}
use Rattle.std.specs.Io.KnownBytes.{Appends}
use Rattle.std.proofs.KnownBytes.{Appends-nil, Appends-trans}
use Rattle.chunk_core.specs.Outlets.{AppendsPart, outlet_failures, outlet_writer}
use Rattle.chunk_core.specs.declared.inlet.Inlet.{Inlet}
use Rattle.chunk_core.specs.declared.outlet.Outlet.{Outlet}
use Rattle.dsd_bits.specs.declared.interleaving.Interleaving.{Interleaving}
use Rattle.dsd_bits.specs.declared.sound.Sound.{Sound}
use Rattle.dsd_bits.specs.Sounds.{sound_size}
use Rattle.interleave_core.proofs.GroupLaws.{size_on}
use Rattle.interleave_core.proofs.JoinLaws.{groups_join}
use Rattle.interleave_core.specs.Reinterleaving.{reinterleaved}
use Rattle.sound_core.specs.Faults.{IsWritingFault, failed_writes}
use Rattle.sound_core.specs.Outlines.{AreStated, IsOutlineFault, IsPlacedIn, Surroundings}
use Rattle.sound_core.specs.Sinks.{BeginsSound, IsFed, StopsTaking, TakesFile, TakesGiven}
use Rattle.sound_core.specs.declared.fault.StreamFault.{StreamFault}
use Rattle.sound_core.specs.declared.fault.StreamFault.TheVariants.{FileRefused, RateNotDivided, TooLarge, ReadFailed, WriteFailed, TurnLimit, Memory}
use Rattle.sound_core.specs.declared.part.SoundPart.{SoundPart}
use Rattle.sound_core.proofs.FaultLaws.{by_writing}
use Rattle.sound_core.proofs.KeeperLaws.{no_size}
use Rattle.sound_core.proofs.SameLaws.{not_refused, same_around, same_holds, same_prefix, same_rest, stated_same}
use Rattle.sound_core.proofs.TakingLaws.{fed_on}
use Rattle.sound_core.specs.Relays.{AppendsUntil, IsOwnFault, IsRelayFault, IsRelaying, IsSameAround, RefusesRelaying, RelayFails, Relays, RelaysPrefix, RelaysGiven, reinterleaved_sound, relayed}
use Rattle.sound_core.specs.declared.relaying.NewFile.{NewFile}
use Rattle.sound_core.specs.declared.relaying_sink.RelayingSink.{RelayingSink}

-- ---- prefixes of what is written
pub until_nil : (a : Option (List ℕ)) (all : List ℕ) (f : StreamFault) → f ≢ WriteFailed → AppendsUntil a a all f
until_nil a all f calm = ([], all, refl, λ failed. absurd (calm failed), Appends-nil a)

pub until_part : (a b : Option (List ℕ)) (all : List ℕ) (f : StreamFault) → AppendsPart a b all → AppendsUntil a b all f
until_part a b all f out = (out.0, out.1, out.2, λ failed. out.3, out.4)

until_whole : (a b : Option (List ℕ)) (all : List ℕ) (f : StreamFault) → f ≢ WriteFailed → Appends a b all → AppendsUntil a b all f
until_whole a b all f calm out = (all, [], sym (append-nil all), λ failed. absurd (calm failed), out)

pub until_more : (a b : Option (List ℕ)) (xs ys : List ℕ) (f : StreamFault) → AppendsUntil a b xs f → AppendsUntil a b (xs ++ ys) f
until_more a b xs ys f out = (
  out.0,
  out.1 ++ ys,
  ap (λ zs. zs ++ ys) out.2 ∙ append_assoc out.0 out.1 ys,
  λ failed. omega (arith, out.3 failed, length-append out.1 ys),
  out.4,
)

until_on : (a b c : Option (List ℕ)) (xs ys : List ℕ) (f : StreamFault) → Appends a b xs → AppendsUntil b c ys f → AppendsUntil a c (xs ++ ys) f
until_on a b c xs ys f p q = (xs ++ q.0, q.1, ap (λ zs. xs ++ zs) q.2 ∙ sym (append_assoc xs q.0 q.1), q.3, Appends-trans a b c xs q.0 p q.4)

-- ---- a sound that is interleaved again, part by part
-- nothing of a sound is nothing of another
pub relaced_none : (s : Sound) (to : Interleaving) → reinterleaved s.interleaving to s.channels 0 [] ≡ []
relaced_none s to =
    let made = reinterleaved s.interleaving to s.channels 0 [] in
    let none = sym (no_size s.interleaving s.channels) in
    let twice : made ≡ made ++ made = groups_join s.interleaving to s.channels 0 0 [] [] refl none none in
    nil_from_length made (omega (arith, ap length twice, length-append made made))

-- what came and a part after it
pub relaced_on : (part : SoundPart) (before bytes : List ℕ) (to : Interleaving) → IsFed part.sound part.done before → length bytes ≡ sound_size part.sound.interleaving part.sound.channels part.bits
    → reinterleaved part.sound.interleaving to part.sound.channels (part.done + part.bits) (before ++ bytes) ≡ reinterleaved part.sound.interleaving to part.sound.channels part.done before ++ reinterleaved part.sound.interleaving to part.sound.channels part.bits bytes
relaced_on part before bytes to fed long = groups_join part.sound.interleaving to part.sound.channels part.done part.bits before bytes (fed.groups (omega (arith, part.some, part.within))) fed.size long

-- what came begins the whole
pub relaced_begins : (s : Sound) (to : Interleaving) (done : ℕ) (came rest : List ℕ) → IsFed s done came → length (came ++ rest) ≡ s.size → (more : List ℕ) × (reinterleaved_sound s to (came ++ rest) ≡ reinterleaved s.interleaving to s.channels done came ++ more)
relaced_begins s to done came rest fed long = elim (cases_lt done s.count) [
  | inl less ↦ (
      let bits = s.count - done in
      let sum : done + bits ≡ s.count = omega (arith, less) in
      let size = size_on s.interleaving s.channels done bits (fed.groups less) in
      let rest_long : length rest ≡ sound_size s.interleaving s.channels bits = omega (arith, long, length-append came rest, fed.size, fed.is_sound.size, size, ap (sound_size s.interleaving s.channels) sum) in (
        reinterleaved s.interleaving to s.channels bits rest,
        ap (λ n. reinterleaved s.interleaving to s.channels n (came ++ rest)) (sym sum) ∙ groups_join s.interleaving to s.channels done bits came rest (fed.groups less) fed.size rest_long,
      ))
  | inr all ↦ (
      let is : s.count ≡ done = omega (arith, all, fed.within) in
      let none : rest ≡ [] = nil_from_length rest (omega (arith, long, length-append came rest, fed.size, fed.is_sound.size, ap (sound_size s.interleaving s.channels) is)) in (
        [],
        ap₂ (λ n xs. reinterleaved s.interleaving to s.channels n xs) is (ap (λ xs. came ++ xs) none ∙ append-nil came) ∙ sym (append-nil (reinterleaved s.interleaving to s.channels done came)),
      ))
]

-- ---- faults
-- a fault of reading around the sound
module _ (o : Surroundings) (stated : AreStated o) (left : Option (List ℕ)) where
  pub outline_holds : (f : StreamFault) → IsOutlineFault left f → IsRelayFault left o f
  outline_holds FileRefused h = by left h
    where
      by : (l : Option (List ℕ)) → IsOutlineFault l FileRefused → IsRelayFault l o FileRefused
      by None refused = tt
      by (Some file) refused = λ around. not_refused o stated file around refused
  outline_holds RateNotDivided h = absurd h
  outline_holds TooLarge h = absurd h
  outline_holds ReadFailed h = tt
  outline_holds WriteFailed h = absurd h
  outline_holds TurnLimit h = tt
  outline_holds Memory h = tt

outline_calm : (left : Option (List ℕ)) (f : StreamFault) → IsOutlineFault left f → f ≢ WriteFailed
outline_calm left f h same = subst (IsOutlineFault left) same h

outline_uncounted : (left : Option (List ℕ)) (f : StreamFault) → IsOutlineFault left f → failed_writes {X = Unit {0}} (Err f) ≡ 0
outline_uncounted left FileRefused h = refl
outline_uncounted left RateNotDivided h = absurd h
outline_uncounted left TooLarge h = absurd h
outline_uncounted left ReadFailed h = refl
outline_uncounted left WriteFailed h = absurd h
outline_uncounted left TurnLimit h = refl
outline_uncounted left Memory h = refl

pub writing_is_own : (own s : Sound) (f : StreamFault) → IsWritingFault f → IsOwnFault own s f
writing_is_own own s f h = by_writing (IsOwnFault own s) tt tt f h

pub writing_holds : (left : Option (List ℕ)) (o : Surroundings) (f : StreamFault) → IsWritingFault f → IsRelayFault left o f
writing_holds left o f h = by_writing (IsRelayFault left o) tt tt f h

-- ---- what relays a sound
module _ {W : Type 0} (held : W → Option (List ℕ)) (first old new : RelayingSink W) where
  abbrev a : Option (List ℕ)
  a = held (outlet_writer first.outlet.now)

  abbrev b : Option (List ℕ)
  b = held (outlet_writer old.outlet.now)

  abbrev c : Option (List ℕ)
  c = held (outlet_writer new.outlet.now)

  abbrev to : Interleaving
  to = first.target.interleaving

  abbrev head : List ℕ
  head = first.target.head.now

  -- ---- a part after what came
  module _ (part : SoundPart) (before bytes : List ℕ) (fed : IsFed part.sound part.done before) (is : IsRelaying held first old part.sound part.done before) (long : length bytes ≡ sound_size part.sound.interleaving part.sound.channels part.bits) (reference : new.outlet.ghost_name ≡ old.outlet.ghost_name) where
    abbrev s : Sound
    s = part.sound

    abbrev made : List ℕ
    made = reinterleaved s.interleaving old.target.interleaving s.channels part.bits bytes

    made_is : made ≡ reinterleaved s.interleaving to s.channels part.bits bytes
    made_is = ap (λ (t : NewFile). reinterleaved s.interleaving t.interleaving s.channels part.bits bytes) is.target

    abbrev so_far : List ℕ
    so_far = reinterleaved s.interleaving to s.channels part.done before

    pub relaying_on : new.target ≡ old.target → Appends b c made → outlet_failures new.outlet.now ≡ outlet_failures old.outlet.now → IsRelaying held first new s (part.done + part.bits) (before ++ bytes)
    relaying_on target out failures = record {
      same = reference ∙ is.same;
      target = target ∙ is.target;
      own = is.own;
      ready = is.ready;
      written = subst (Appends a c) (append_assoc head so_far made ∙ ap (λ xs. head ++ xs) (ap (λ xs. so_far ++ xs) made_is ∙ sym (relaced_on part before bytes to fed long))) (Appends-trans a b c (head ++ so_far) made is.written out);
      failures = failures ∙ is.failures;
    }

    pub relaying_refuses : (f : StreamFault) → IsWritingFault f → AppendsUntil b c made f → outlet_failures new.outlet.now ≡ outlet_failures old.outlet.now + failed_writes {X = Unit {0}} (Err f) → RefusesRelaying held first new s (before ++ bytes) f
    relaying_refuses f fault out failures = record {
      same = reference ∙ is.same;
      fault = writing_is_own first.sound s f fault;
      prefix = λ own rest whole.
          let more = relaced_begins s to (part.done + part.bits) (before ++ bytes) rest (fed_on part before fed bytes long) whole in
          let tail = first.target.tail.now in
          let now : reinterleaved_sound s to ((before ++ bytes) ++ rest) ≡ so_far ++ (made ++ more.0) =
          more.1 ∙ ap (λ xs. xs ++ more.0) (relaced_on part before bytes to fed long ∙ ap (λ xs. so_far ++ xs) (sym made_is)) ∙ append_assoc so_far made more.0 in
          let all : relayed first.target s ((before ++ bytes) ++ rest) ≡ (head ++ so_far) ++ (made ++ (more.0 ++ tail)) =
          ap (λ xs. head ++ (xs ++ tail)) now ∙ ap (λ xs. head ++ xs) (append_assoc so_far (made ++ more.0) tail ∙ ap (λ xs. so_far ++ xs) (append_assoc made more.0 tail)) ∙ sym (append_assoc head so_far (made ++ (more.0 ++ tail))) in
          subst (λ xs. AppendsUntil a c xs f) (sym all) (until_on a b c (head ++ so_far) (made ++ (more.0 ++ tail)) f is.written (until_more b c made (more.0 ++ tail) f out));
      failures = failures ∙ ap (λ n. n + failed_writes {X = Unit {0}} (Err f)) is.failures;
    }

-- ---- a file that is not taken to its end
module _ {W : Type 0} (held : W → Option (List ℕ)) (first new : RelayingSink W) (o : Surroundings) (stated : AreStated o) (own : first.sound ≡ o.sound) where
  abbrev at_first : Option (List ℕ)
  at_first = held (outlet_writer first.outlet.now)

  abbrev at_last : Option (List ℕ)
  at_last = held (outlet_writer new.outlet.now)

  abbrev pub Stops : Option (List ℕ) → ℕ → ℕ → StreamFault → Type 0
  Stops left g h f = StopsTaking (λ x y s done bytes. IsRelaying held x y s done bytes) (λ x y s came e. RefusesRelaying held x y s came e) left g h first new f

  -- the sound that the file states is that of the outline, and what came begins it
  began : (file sound : List ℕ) → IsPlacedIn o file sound → (s : Sound) (came : List ℕ) → BeginsSound s came file → s ≡ o.sound
  began file sound stands s came begins = stated_same o.head begins.prefix (sound ++ (stands.gap ++ (o.back ++ stands.rest))) begins.rest (sym stands.file_is ∙ begins.file_is) o.sound s stated.states begins.states

  came_is : (file sound : List ℕ) → IsPlacedIn o file sound → (s : Sound) (came : List ℕ) → BeginsSound s came file → length came ≤ s.size → (rest : List ℕ) × (sound ≡ came ++ rest)
  came_is file sound stands s came begins few =
      let is = began file sound stands s came begins in
      let after = stands.gap ++ (o.back ++ stands.rest) in
      let here : drop s.start file ≡ came ++ begins.more = ap (drop s.start) begins.file_is ∙ drop-append-le s.start begins.prefix begins.rest begins.states.within ∙ begins.sound_is in
      let there : drop s.start file ≡ sound ++ after = ap₂ (λ n xs. drop n xs) (ap (λ (t : Sound). t.start) is ∙ stated.start) stands.file_is ∙ drop-append_seam o.head (sound ++ after) in
      let n = length came in
      let split : sound ≡ take n sound ++ drop n sound = sym (take-append-drop n sound) in
      let long : length (take n sound) ≡ n = omega (arith, length-take n sound, few, stands.sound_long, ap (λ (t : Sound). t.size) is) in
      let whole : take n sound ++ (drop n sound ++ after) ≡ came ++ begins.more = sym (append_assoc (take n sound) (drop n sound) after) ∙ ap (λ xs. xs ++ after) (sym split) ∙ sym there ∙ here in
      (drop n sound, split ∙ ap (λ xs. xs ++ drop n sound) (same_prefix (take n sound) came (drop n sound ++ after) begins.more whole long))

  pub stops_fault : (left : Option (List ℕ)) (g h : ℕ) (f : StreamFault) → Stops left g h f → IsRelayFault left o f
  stops_fault left g h f (inl none) = outline_holds o stated left f none.fault
  stops_fault left g h f (inr some) = elim some.how [
    | inl ends ↦ outline_holds o stated left f ends.fault
    | inr refuses ↦ by f refuses.refuses.fault
  ]
    where
      other : (l : Option (List ℕ)) → IfSome l (BeginsSound some.sound some.came) → (some.sound ≡ first.sound → ⊥) → IsRelayFault l o FileRefused
      other None begins differs = tt
      other (Some file) begins differs = λ around. differs (began file around.0 around.1 some.sound some.came begins ∙ sym own)

      by : (f : StreamFault) → IsOwnFault first.sound some.sound f → IsRelayFault left o f
      by FileRefused differs = other left some.begins differs
      by RateNotDivided h = absurd h
      by TooLarge h = absurd h
      by ReadFailed h = absurd h
      by WriteFailed h = tt
      by TurnLimit h = absurd h
      by Memory h = tt

  pub stops_prefix : (left : Option (List ℕ)) (g h : ℕ) (f : StreamFault) → Stops left g h f → RelaysPrefix left first.target o at_first at_last f
  stops_prefix None g h f stops = tt
  stops_prefix (Some file) g h f (inl none) = λ sound stands.
      subst (λ (k : RelayingSink W). AppendsUntil at_first (held (outlet_writer k.outlet.now)) (relayed first.target o.sound sound) f) (sym none.same) (until_nil at_first (relayed first.target o.sound sound) f (outline_calm (Some file) f none.fault))
  stops_prefix (Some file) g h f (inr some) = λ sound stands.
      let s = some.sound in
      let is = began file sound stands s some.came some.begins in
      let rest = came_is file sound stands s some.came some.begins some.few in
      let long : length (some.came ++ rest.0) ≡ s.size = ap length (sym rest.1) ∙ stands.sound_long ∙ ap (λ (t : Sound). t.size) (sym is) in
      let all : relayed first.target s (some.came ++ rest.0) ≡ relayed first.target o.sound sound = ap₂ (λ t xs. relayed first.target t xs) is (sym rest.1) in
      subst (λ xs. AppendsUntil at_first at_last xs f) all (elim some.how [
        | inl ends ↦ (
            let to = first.target.interleaving in
            let head = first.target.head.now in
            let tail = first.target.tail.now in
            let made = reinterleaved s.interleaving to s.channels ends.done some.came in
            let more = relaced_begins s to ends.done some.came rest.0 ends.fed long in
            let parts : relayed first.target s (some.came ++ rest.0) ≡ (head ++ made) ++ (more.0 ++ tail) =
            ap (λ xs. head ++ (xs ++ tail)) more.1 ∙ ap (λ xs. head ++ xs) (append_assoc made more.0 tail) ∙ sym (append_assoc head made (more.0 ++ tail)) in
            subst (λ xs. AppendsUntil at_first at_last xs f) (sym parts) (until_more at_first at_last (head ++ made) (more.0 ++ tail) f (until_whole at_first at_last (head ++ made) f (outline_calm (Some file) f ends.fault) ends.taken.written)))
        | inr refuses ↦ refuses.refuses.prefix (is ∙ sym own) rest.0 long
      ])

  pub stops_counted : (left : Option (List ℕ)) (g h : ℕ) (f : StreamFault) → Stops left g h f → outlet_failures new.outlet.now ≡ outlet_failures first.outlet.now + failed_writes {X = Unit {0}} (Err f)
  stops_counted left g h f (inl none) = omega (arith, ap (λ (k : RelayingSink W). outlet_failures k.outlet.now) none.same, outline_uncounted left f none.fault)
  stops_counted left g h f (inr some) = elim some.how [
    | inl ends ↦ omega (arith, ends.taken.failures, outline_uncounted left f ends.fault)
    | inr refuses ↦ refuses.refuses.failures
  ]

  pub stops_same : (left : Option (List ℕ)) (g h : ℕ) (f : StreamFault) → Stops left g h f → new.outlet.ghost_name ≡ first.outlet.ghost_name
  stops_same left g h f (inl none) = ap (λ (k : RelayingSink W). k.outlet.ghost_name) none.same
  stops_same left g h f (inr some) = elim some.how [
    | inl ends ↦ ends.taken.same
    | inr refuses ↦ refuses.refuses.same
  ]

  pub stops_relaying : (left : Option (List ℕ)) (g h : ℕ) (f : StreamFault) → Stops left g h f → RelayFails held left first.target o first.outlet.now new.outlet.now f
  stops_relaying left g h f stops = record { fault = stops_fault left g h f stops; prefix = stops_prefix left g h f stops; failures = stops_counted left g h f stops }

-- ---- a file that was taken, and whose outline is p
module _ {W : Type 0} (held : W → Option (List ℕ)) (first mid : RelayingSink W) (o p : Surroundings) (stated : AreStated o) (own : first.sound ≡ o.sound) (also : AreStated p) where
  abbrev begun : Option (List ℕ)
  begun = held (outlet_writer first.outlet.now)

  abbrev after_sound : Option (List ℕ)
  after_sound = held (outlet_writer mid.outlet.now)

  abbrev has : Sound → ℕ → List ℕ → Type 0
  has s done bytes = IsRelaying held first mid s done bytes

  -- what holds of the sink, whatever was read
  pub record IsRelayed : Type 0 where
    pub same : mid.outlet.ghost_name ≡ first.outlet.ghost_name
    pub target_is : mid.target ≡ first.target
    pub own_is : p.sound ≡ o.sound
    pub ready : outlet_failures first.outlet.now < 2 ^ 64 - 1
    pub failures : outlet_failures mid.outlet.now ≡ outlet_failures first.outlet.now

  pub is_relayed : {R : Type 0} (left : R → Option (List ℕ)) (i j : Inlet R) → TakesGiven has left i j p → IsRelayed
  is_relayed left i j (read, reads, taken) = record { same = taken.2.same; target_is = taken.2.target; own_is = taken.2.own ∙ own; ready = taken.2.ready.outlet; failures = taken.2.failures }

  -- a different outline is of a different file
  module _ (left : Option (List ℕ)) (taken : TakesFile has left p) (differs : IsSameAround p o → ⊥) where
    pub other_holds : IsRelayFault left o FileRefused
    other_holds = by left taken.1
      where
        by : (l : Option (List ℕ)) → IfSome l (λ file. (sound : List ℕ) × IsPlacedIn p file sound × has p.sound p.sound.count sound) → IsRelayFault l o FileRefused
        by None h = tt
        by (Some file) h = λ around. differs (same_around p o also stated file h.0 around.0 h.1 around.1)

    other_prefix : RelaysPrefix left first.target o begun after_sound FileRefused
    other_prefix = by left other_holds
      where
        by : (l : Option (List ℕ)) → IsRelayFault l o FileRefused → RelaysPrefix l first.target o begun after_sound FileRefused
        by None h = tt
        by (Some file) h = λ sound stands. absurd (h (sound, stands))

    pub other_fails : outlet_failures mid.outlet.now ≡ outlet_failures first.outlet.now → RelayFails held left first.target o first.outlet.now mid.outlet.now FileRefused
    other_fails failures = record { fault = other_holds; prefix = other_prefix; failures = omega (arith, failures) }

  -- the same outline: the tail is written
  module _ (new : Outlet W) (own_is : p.sound ≡ o.sound) (same : IsSameAround p o) where
    abbrev ended : Option (List ℕ)
    ended = held (outlet_writer new)

    -- what was written of a sound
    abbrev body : List ℕ → List ℕ
    body sound = first.target.head.now ++ reinterleaved_sound p.sound first.target.interleaving sound

    whole : (sound : List ℕ) → body sound ++ first.target.tail.now ≡ relayed first.target o.sound sound
    whole sound = append_assoc first.target.head.now (reinterleaved_sound p.sound first.target.interleaving sound) first.target.tail.now ∙ ap (λ (t : Sound). relayed first.target t sound) own_is

    written : (sound : List ℕ) → has p.sound p.sound.count sound → Appends after_sound ended mid.target.tail.now → Appends begun ended (relayed first.target o.sound sound)
    written sound is out = subst (Appends begun ended) (ap (λ (t : NewFile). body sound ++ t.tail.now) is.target ∙ whole sound) (Appends-trans begun after_sound ended (body sound) mid.target.tail.now is.written out)

    pub file_relayed : (left : Option (List ℕ)) → TakesFile has left p → Appends after_sound ended mid.target.tail.now → Relays left first.target o begun ended
    file_relayed None (taken, h) out = tt
    file_relayed (Some file) (taken, h) out = (h.0, same_holds o p own_is same file h.0 h.1, written h.0 h.2 out)

    pub given_relayed : {R : Type 0} (left : R → Option (List ℕ)) (i j : Inlet R) → TakesGiven has left i j p → Appends after_sound ended mid.target.tail.now → RelaysGiven left i j first.target o begun ended
    given_relayed left i j (read, reads, h) out = (read, h.0, reads, same_holds o p own_is same read h.0 h.1, written h.0 h.2 out)

    -- or a prefix of it
    pub tail_fails : (left : Option (List ℕ)) → TakesFile has left p → (f : StreamFault) → IsWritingFault f → AppendsPart after_sound ended mid.target.tail.now → outlet_failures new ≡ outlet_failures first.outlet.now + failed_writes {X = Unit {0}} (Err f)
        → RelayFails held left first.target o first.outlet.now new f
    tail_fails left taken f fault out failures = record {
      fault = writing_holds left o f fault;
      prefix = by left taken.1;
      failures = failures;
    }
      where
        by : (l : Option (List ℕ)) → IfSome l (λ file. (sound : List ℕ) × IsPlacedIn p file sound × has p.sound p.sound.count sound) → RelaysPrefix l first.target o begun ended f
        by None h = tt
        by (Some file) h = λ sound stands.
            let is = h.2 in
            let here = same_holds o p own_is same file h.0 h.1 in
            let after = λ (xs : List ℕ) (t : IsPlacedIn o file xs). t.gap ++ (o.back ++ t.rest) in
            let one : h.0 ≡ sound =
            same_prefix h.0 sound (after h.0 here) (after sound stands)
            (same_rest o.head o.head (h.0 ++ after h.0 here) (sound ++ after sound stands) (sym here.file_is ∙ stands.file_is) refl) (here.sound_long ∙ sym stands.sound_long) in
            let tail : mid.target.tail.now ≡ first.target.tail.now = ap (λ (t : NewFile). t.tail.now) is.target in
            subst (λ xs. AppendsUntil begun ended (relayed first.target o.sound xs) f) one (subst (λ xs. AppendsUntil begun ended xs f) (whole h.0) (until_on begun after_sound ended (body h.0) first.target.tail.now f is.written (until_part after_sound ended first.target.tail.now f (subst (AppendsPart after_sound ended) tail out))))

-- ---- nothing was read
pub nothing_relayed : (left : Option (List ℕ)) (target : NewFile) (o : Surroundings) (a : Option (List ℕ)) (f : StreamFault) → f ≢ WriteFailed → RelaysPrefix left target o a a f
nothing_relayed None target o a f calm = tt
nothing_relayed (Some file) target o a f calm = λ sound stands. until_nil a (relayed target o.sound sound) f calm

-- ---- what holds of an answer
pub each_ok : {P F : Type 0} (n m : ℕ) (r : Result (Unit {0}) StreamFault) → OnOk r P → n ≡ m + failed_writes r → (P → n ≡ m → F) → OnOk r F
each_ok n m (Ok x) p failures on = on p (omega (arith, failures))
each_ok n m (Err f) p failures on = tt

pub each_err : {P : Type 0} {Q F : StreamFault → Type 0} (n m : ℕ) (r : Result (Unit {0}) StreamFault) → OnErr r P → IfErr r Q → n ≡ m + failed_writes r → ((f : StreamFault) → P → Q f → n ≡ m + failed_writes {X = Unit {0}} (Err f) → F f) → IfErr r F
each_err n m (Ok x) p q failures on = tt
each_err n m (Err f) p q failures on = on f p q failures
