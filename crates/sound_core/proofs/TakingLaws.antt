-- A sound that is read and taken, part by part.
use Rattle.std.proofs.Common.{◌≡◌, ℕ, ◌+◌, ◌-◌, ◌%◌, ◌<◌, ◌≤◌, inl, inr, List, [], ◌++◌, length, Option, Some, None, IfSome, refl, sym, subst, ap, ◌∙◌, arith, append-nil, append_assoc, length-append}
use Rattle.std.proofs.lemmas.Bool.{cases_lt}
use Rattle.std.proofs.lemmas.List.{nil_from_length}
use Rattle.chunk_core.specs.Inlets.{inlet_reader}
use Rattle.chunk_core.specs.declared.inlet.Inlet.{Inlet}
use Rattle.dsd_bits.specs.declared.interleaving.Interleaving.TheVariants.{Bytes}
use Rattle.dsd_bits.specs.declared.sound.Sound.{Sound}
use Rattle.dsd_bits.specs.Sounds.{IsSound, sound_size}
use Rattle.interleave_core.proofs.GroupLaws.{size_on}
use Rattle.sound_core.specs.Outlines.{AreStated, IsOutlineFault, IsPlacedIn, Surroundings, SurroundsFile, SurroundsGiven}
use Rattle.sound_core.specs.Readers.{IsPassFault, Passes}
use Rattle.sound_core.specs.Sinks.{EndsInPart, EndsShort, IsFed, IsTakenOf, NoneCame, StopsPart, StopsSound, StopsTaking, TakesFile, TakesGiven, TakesPart, TakesSome}
use Rattle.sound_core.specs.declared.fault.StreamFault.{StreamFault}
use Rattle.sound_core.specs.declared.fault.StreamFault.TheVariants.{FileRefused, RateNotDivided, TooLarge, ReadFailed, WriteFailed, TurnLimit, Memory}
use Rattle.sound_core.specs.declared.part.SoundPart.{SoundPart}
use Rattle.sound_core.proofs.ClosingLaws.{nothing_left}
use Rattle.sound_core.proofs.KeeperLaws.{no_size}
use Rattle.sound_core.proofs.OutlineLaws.{left_is, pass_none}
use Rattle.sound_core.proofs.ReadLaws.{reads_on}
use Rattle.sound_core.proofs.StatedLaws.{unread_none}

-- a file that is not read at all: its sink is as it was
pub not_begun : {S : Type 0} (left : Option (List ℕ)) (given : ℕ) (sink : S) → NoneCame left given given sink sink TurnLimit
not_begun left given sink = record { same = refl; fault = tt; none = λ stops. unread_none left given }

-- ---- what came
pub fed_none : (s : Sound) → IsSound s → (s.interleaving ≡ Bytes → s.count % 8 ≡ 0) → IsFed s 0 []
fed_none s is_sound whole = record { is_sound = is_sound; whole = whole; within = omega arith; groups = λ rest. refl; size = sym (no_size s.interleaving s.channels) }

-- what was passed begins what there is
pub begins_passed : {R : Type 0} (left : R → Option (List ℕ)) (i j : Inlet R) (n : ℕ) (a b : List ℕ) (passes : Passes left i j n a b) → IfSome (left (inlet_reader i)) (λ xs. (more : List ℕ) × (a ++ xs ≡ passes.passed ++ more))
begins_passed left i j n a b passes = by (left (inlet_reader i)) refl
  where
    by : (o : Option (List ℕ)) → left (inlet_reader i) ≡ o → IfSome o (λ xs. (more : List ℕ) × (a ++ xs ≡ passes.passed ++ more))
    by None known = tt
    by (Some xs) known =
        let ys = left_is left i j passes.read passes.reads xs known in
        (b ++ ys.0, ap (λ zs. a ++ zs) ys.2 ∙ sym (append_assoc a passes.read ys.0) ∙ ap (λ zs. zs ++ ys.0) passes.parts ∙ append_assoc passes.passed b ys.0)

-- ---- a part after what came
module _ (part : SoundPart) (before : List ℕ) (fed : IsFed part.sound part.done before) where
  abbrev s : Sound
  s = part.sound

  groups : part.done % 32768 ≡ 0
  groups = fed.groups (omega (arith, part.some, part.within))

  sum : sound_size s.interleaving s.channels (part.done + part.bits) ≡ length before + sound_size s.interleaving s.channels part.bits
  sum = omega (arith, fed.size, size_on s.interleaving s.channels part.done part.bits groups)

  -- both are a part of the sound
  pub part_within : length before + sound_size s.interleaving s.channels part.bits ≤ s.size
  part_within = elim (cases_lt (part.done + part.bits) s.count) [
    | inl less ↦ (
        let rest = s.count - (part.done + part.bits) in
        let all : part.done + part.bits + rest ≡ s.count = omega (arith, less) in
        omega (arith, sum, part.is_sound.size, ap (sound_size s.interleaving s.channels) all, size_on s.interleaving s.channels (part.done + part.bits) rest (omega (arith, part.groups less, groups))))
    | inr all ↦ (let is : part.done + part.bits ≡ s.count = omega (arith, all, part.within) in omega (arith, sum, part.is_sound.size, ap (sound_size s.interleaving s.channels) is))
  ]

  pub fed_on : (bytes : List ℕ) → length bytes ≡ sound_size s.interleaving s.channels part.bits → IsFed s (part.done + part.bits) (before ++ bytes)
  fed_on bytes long = record {
    is_sound = fed.is_sound;
    whole = fed.whole;
    within = part.within;
    groups = λ rest. omega (arith, part.groups rest, groups);
    size = omega (arith, sum, length-append before bytes, long);
  }

-- ---- one part after the other
module _ {R S : Type 0} (left : R → Option (List ℕ)) (has : S → S → Sound → ℕ → List ℕ → Type 0) where
  pub some_none : (s : Sound) (i : Inlet R) (old k : S) (ahead : List ℕ) → IsFed s 0 [] → has old k s 0 [] → TakesSome left has s i i old k 0 ahead ahead
  some_none s i old k ahead fed begun =
      let pass = pass_none left i ahead in
      record {
        passes = record { passed = []; read = pass.read; reads = pass.reads; parts = pass.parts ∙ ap (λ xs. xs ++ ahead) (nil_from_length pass.passed pass.long); long = fed.size };
        fed = fed;
        taken = begun;
      }

  -- all of it was taken
  pub some_all : (s : Sound) (i j : Inlet R) (old now : S) (n : ℕ) (a b : List ℕ) → TakesSome left has s i j old now n a b → s.count ≤ n → TakesSome left has s i j old now s.count a b
  some_all s i j old now n a b so_far all = let count : n ≡ s.count = omega (arith, all, so_far.fed.within) in subst (λ m. TakesSome left has s i j old now m a b) count so_far

  module _ (part : SoundPart) (i j : Inlet R) (old now : S) (a b : List ℕ) (so_far : TakesSome left has part.sound i j old now part.done a b) where
    abbrev within : length so_far.passes.passed + sound_size part.sound.interleaving part.sound.channels part.bits ≤ part.sound.size
    within = part_within part so_far.passes.passed so_far.fed

    abbrev pub passes_on : (k : Inlet R) (n : ℕ) (c : List ℕ) (passes : Passes left j k n b c) → Passes left i k (length so_far.passes.passed + n) a c
    passes_on k n c passes = record {
      passed = so_far.passes.passed ++ passes.passed;
      read = so_far.passes.read ++ passes.read;
      reads = reads_on left i j k so_far.passes.read passes.read so_far.passes.reads passes.reads;
      parts = sym (append_assoc a so_far.passes.read passes.read) ∙ ap (λ xs. xs ++ passes.read) so_far.passes.parts ∙ append_assoc so_far.passes.passed b passes.read
          ∙ ap (λ xs. so_far.passes.passed ++ xs) passes.parts ∙ sym (append_assoc so_far.passes.passed passes.passed c);
      long = omega (arith, length-append so_far.passes.passed passes.passed, passes.long);
    }

    pub some_on : (k : Inlet R) (new : S) (c : List ℕ) → TakesPart left has j k now new part b c → TakesSome left has part.sound i k old new (part.done + part.bits) a c
    some_on k new c taken =
        let more = passes_on k (sound_size part.sound.interleaving part.sound.channels part.bits) c taken.passes in
        let fed = fed_on part so_far.passes.passed so_far.fed taken.passes.passed taken.passes.long in
        record {
          passes = record { passed = so_far.passes.passed ++ taken.passes.passed; read = so_far.passes.read ++ taken.passes.read; reads = more.reads; parts = more.parts; long = fed.size };
          fed = fed;
          taken = taken.taken old so_far.passes.passed so_far.fed so_far.taken;
        }

    -- where a part is missing the sound is not whole
    some_fault : (f : StreamFault) → IsPassFault (left (inlet_reader j)) (sound_size part.sound.interleaving part.sound.channels part.bits) b f → IsPassFault (left (inlet_reader i)) part.sound.size a f
    some_fault FileRefused h = by (left (inlet_reader i)) refl
      where
        by : (l : Option (List ℕ)) → left (inlet_reader i) ≡ l → IsPassFault l part.sound.size a FileRefused
        by None known = tt
        by (Some xs) known =
            let ys = left_is left i j so_far.passes.read so_far.passes.reads xs known in
            let fewer : length (b ++ ys.0) < sound_size part.sound.interleaving part.sound.channels part.bits = subst (λ l. IsPassFault l (sound_size part.sound.interleaving part.sound.channels part.bits) b FileRefused) ys.1 h in
            omega (arith, fewer, within, ap length so_far.passes.parts, ap length ys.2, length-append a xs, length-append a so_far.passes.read, length-append so_far.passes.passed b, length-append so_far.passes.read ys.0, length-append b ys.0)
    some_fault RateNotDivided h = absurd h
    some_fault TooLarge h = absurd h
    some_fault ReadFailed h = tt
    some_fault WriteFailed h = absurd h
    some_fault TurnLimit h = tt
    some_fault Memory h = tt

    pub stops_on : (refused : S → S → Sound → List ℕ → StreamFault → Type 0) (k : Inlet R) (new : S) (c : List ℕ) (f : StreamFault) → StopsPart left has refused j k now new part b c f → StopsSound left has refused part.sound i k old new a f
    stops_on refused k new c f (inl stops) = record {
      came = so_far.passes.passed;
      few = omega (arith, within);
      begins = begins_passed left i j (sound_size part.sound.interleaving part.sound.channels part.done) a b so_far.passes;
      how = inl (record {
        done = part.done;
        fed = so_far.fed;
        taken = subst (λ x. has old x part.sound part.done so_far.passes.passed) (sym stops.same) so_far.taken;
        fault = some_fault f stops.fault;
        pace = λ stop. omega (arith, stops.pace stop, part.fits, so_far.passes.reads.given, ap length so_far.passes.parts, length-append a so_far.passes.read, length-append so_far.passes.passed b);
      });
    }
    stops_on refused k new c f (inr refuses) =
        let more = passes_on k (sound_size part.sound.interleaving part.sound.channels part.bits) c refuses.passes in
        record {
          came = more.passed;
          few = omega (arith, within, more.long);
          begins = begins_passed left i k (length so_far.passes.passed + sound_size part.sound.interleaving part.sound.channels part.bits) a c more;
          how = inr (record { own = refuses.own; refuses = refuses.refuses old so_far.passes.passed so_far.fed so_far.taken });
        }

    -- the file ends before the part does
    pub short_on : (refused : S → S → Sound → List ℕ → StreamFault → Type 0) (k : Inlet R) (new : S) (c : List ℕ) → EndsInPart left j k now new part b → EndsShort left has refused part.sound i k old new a
    short_on refused k new c ends = record {
      stops = stops_on refused k new c FileRefused (inl (record { same = ends.same; fault = fewer (left (inlet_reader j)) refl; pace = λ stop. absurd stop }));
      short = record {
        read = so_far.passes.read ++ ends.short.read;
        reads = reads_on left i j k so_far.passes.read ends.short.read so_far.passes.reads ends.short.reads;
        few = omega (arith, ends.short.few, within, ap length so_far.passes.parts, length-append a (so_far.passes.read ++ ends.short.read), length-append so_far.passes.read ends.short.read, length-append a so_far.passes.read, length-append so_far.passes.passed b, length-append b ends.short.read);
        at_end = ends.short.at_end;
      };
    }
      where
        fewer : (l : Option (List ℕ)) → left (inlet_reader j) ≡ l → IsPassFault l (sound_size part.sound.interleaving part.sound.channels part.bits) b FileRefused
        fewer None known = tt
        fewer (Some xs) known =
            let ys = left_is left j k ends.short.read ends.short.reads xs known in
            let all : xs ≡ ends.short.read = ys.2 ∙ ap (λ zs. ends.short.read ++ zs) (nothing_left (left (inlet_reader k)) ys.0 ends.short.at_end ys.1) ∙ append-nil ends.short.read in
            subst (λ zs. length (b ++ zs) < sound_size part.sound.interleaving part.sound.channels part.bits) (sym all) ends.short.few

-- ---- the whole file
pub file_taken : (has : Sound → ℕ → List ℕ → Type 0) (left : Option (List ℕ)) (o : Surroundings) (bytes : List ℕ) → AreStated o → ((xs : List ℕ) → left ≡ Some xs → IsPlacedIn o xs bytes) → has o.sound o.sound.count bytes → TakesFile has left o
file_taken has left o bytes stated stands held = (stated, by left refl)
  where
    by : (l : Option (List ℕ)) → left ≡ l → IfSome l (IsTakenOf has o)
    by None known = tt
    by (Some xs) known = (bytes, stands xs known, held)

-- it is some sound in the surroundings, whatever the sink has of that
pub file_around : (has : Sound → ℕ → List ℕ → Type 0) (left : Option (List ℕ)) (o : Surroundings) → TakesFile has left o → SurroundsFile left o
file_around has None o (stated, h) = (stated, tt)
file_around has (Some xs) o (stated, h) = (stated, (h.0, h.1))

pub given_around : {R : Type 0} (has : Sound → ℕ → List ℕ → Type 0) (left : R → Option (List ℕ)) (i j : Inlet R) (o : Surroundings) → TakesGiven has left i j o → SurroundsGiven left i j o
given_around has left i j o (read, reads, h) = (read, reads, (h.0, h.1))

-- a sink that refuses for memory alone
pub memory_alone : {S : Type 0} (has : S → S → Sound → ℕ → List ℕ → Type 0) (left : Option (List ℕ)) (g h : ℕ) (old new : S) (f : StreamFault) → StopsTaking has (λ a b s came e. e ≡ Memory) left g h old new f → IsOutlineFault left f
memory_alone has left g h old new f (inl none) = none.fault
memory_alone has left g h old new f (inr some) = elim some.how [
  | inl ends ↦ ends.fault
  | inr refuses ↦ rw refuses.refuses tt
]
