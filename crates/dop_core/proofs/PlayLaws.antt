-- What is written of a sound as DoP samples, and where that ends.
use Rattle.std.proofs.Common.{◌≡◌, ℕ, ◌+◌, ◌-◌, ◌%◌, ◌≤◌, inl, inr, List, [], ◌++◌, length, take, drop, Option, IfErr, Result, Ok, Err, refl, sym, subst, ap, ap₂, ◌∙◌, arith, append_assoc, append-nil, length-append, length-drop, length-take}
use Rattle.std.proofs.lemmas.Bool.{cases_lt}
use Rattle.std.proofs.lemmas.List.{drop-append-le, nil_from_length, take_all}
use Rattle.std.proofs.Math.Seq.{drop-append_seam, take-append_seam}
use Rattle.std.specs.Io.KnownBytes.{Appends}
use Rattle.std.proofs.KnownBytes.{Appends-nil, Appends-trans}
use Rattle.chunk_core.specs.Outlets.{AppendsPart, AppendsPrefix, outlet_failures, outlet_writer}
use Rattle.dsd_bits.specs.Channels.{count_of}
use Rattle.dsd_bits.specs.Contents.{Content}
use Rattle.dsd_bits.specs.declared.sound.Sound.{Sound}
use Rattle.dsd_bits.specs.Sounds.{HasSound, sound_bytes, sound_size}
use Rattle.interleave_core.proofs.GroupLaws.{size_on}
use Rattle.native_core.specs.Native.{NativeJoins, native}
use Rattle.native_core.specs.declared.layout.Layout.TheVariants.{Dop}
use Rattle.sound_core.specs.Faults.{IsBeforeWriting, IsWritingFault, failed_writes}
use Rattle.sound_core.specs.Files.{HoldsRecording}
use Rattle.sound_core.specs.Outlines.{AreStated, IsPlacedIn, Surroundings, with_sound}
use Rattle.sound_core.specs.Sinks.{BeginsSound, IsFed}
use Rattle.sound_core.specs.declared.fault.StreamFault.{StreamFault}
use Rattle.sound_core.specs.declared.part.SoundPart.{SoundPart}
use Rattle.sound_core.proofs.FaultLaws.{by_writing}
use Rattle.sound_core.proofs.KeeperLaws.{no_size}
use Rattle.sound_core.proofs.ReadLaws.{whole_is}
use Rattle.sound_core.proofs.SameLaws.{holds_in}
use Rattle.sound_core.proofs.TakingLaws.{fed_on}
use Rattle.dop_core.specs.Playing.{PlaysDop}
use Rattle.dop_core.specs.Sinks.{IsDopFault, IsDopPlaying, RefusesDop, file_of_sound, head_of_sound, samples_of}
use Rattle.dop_core.specs.Writing.{FitsDop, dop_head, dop_riff_size, dop_tail, dop_text}
use Rattle.dop_core.specs.declared.sink.DopSink.{DopSink}

-- ---- prefixes of what is written
pub prefix_nil : (a : Option (List ℕ)) (all : List ℕ) → AppendsPrefix a a all
prefix_nil a all = ([], all, refl, Appends-nil a)

pub prefix_more : (a b : Option (List ℕ)) (xs ys : List ℕ) → AppendsPrefix a b xs → AppendsPrefix a b (xs ++ ys)
prefix_more a b xs ys f = (f.0, f.1 ++ ys, ap (λ zs. zs ++ ys) f.2 ∙ append_assoc f.0 f.1 ys, f.3)

pub part_is_prefix : (a b : Option (List ℕ)) (all : List ℕ) → AppendsPart a b all → AppendsPrefix a b all
part_is_prefix a b all out = (out.0, out.1, out.2, out.4)

pub whole_prefix : (a b : Option (List ℕ)) (all : List ℕ) → Appends a b all → AppendsPrefix a b all
whole_prefix a b all out = (all, [], sym (append-nil all), out)

pub prefix_on : (a b c : Option (List ℕ)) (xs ys : List ℕ) → Appends a b xs → AppendsPrefix b c ys → AppendsPrefix a c (xs ++ ys)
prefix_on a b c xs ys p q = (xs ++ q.0, q.1, ap (λ zs. xs ++ zs) q.2 ∙ sym (append_assoc xs q.0 q.1), Appends-trans a b c xs q.0 p q.3)

-- two things that hold of a fault
pub IfErr-both : {X E : Type 0} (r : Result X E) (P Q : E → Type 0) → IfErr r P → IfErr r Q → IfErr r (λ e. P e × Q e)
IfErr-both (Ok x) P Q p q = tt
IfErr-both (Err e) P Q p q = (p, q)

-- ---- faults of writing
pub writing_is_own : (s : Sound) (f : StreamFault) → IsWritingFault f → IsDopFault s f
writing_is_own s f h = by_writing (IsDopFault s) tt tt f h

pub writing_later : (f : StreamFault) → IsWritingFault f → IsBeforeWriting f → ⊥
writing_later f h = by_writing (λ g. IsBeforeWriting g → ⊥) (λ early. early) (λ early. early) f h

module _ (law : NativeJoins) where
  -- ---- samples part by part
  -- nothing of a sound has no samples
  pub samples_none : (s : Sound) → 1 ≤ s.channels → samples_of s 0 [] ≡ []
  samples_none s some =
      let made = samples_of s 0 [] in
      let none = sym (no_size s.interleaving s.channels) in
      let twice : made ≡ made ++ made = law Dop s.interleaving s.channels 0 0 [] [] some refl none none in
      nil_from_length made (omega (arith, ap length twice, length-append made made))

  -- what came and a part after it
  pub samples_on : (part : SoundPart) (before bytes : List ℕ) → IsFed part.sound part.done before → length bytes ≡ sound_size part.sound.interleaving part.sound.channels part.bits
      → samples_of part.sound (part.done + part.bits) (before ++ bytes) ≡ samples_of part.sound part.done before ++ samples_of part.sound part.bits bytes
  samples_on part before bytes fed long = law Dop part.sound.interleaving part.sound.channels part.done part.bits before bytes fed.is_sound.some_channel (fed.groups (omega (arith, part.some, part.within))) fed.size long

  -- what came begins the whole
  pub samples_begin : (s : Sound) (done : ℕ) (came rest : List ℕ) → IsFed s done came → length (came ++ rest) ≡ s.size → (more : List ℕ) × (samples_of s s.count (came ++ rest) ≡ samples_of s done came ++ more)
  samples_begin s done came rest fed long = elim (cases_lt done s.count) [
    | inl less ↦ (
        let bits = s.count - done in
        let sum : done + bits ≡ s.count = omega (arith, less) in
        let size = size_on s.interleaving s.channels done bits (fed.groups less) in
        let rest_long : length rest ≡ sound_size s.interleaving s.channels bits = omega (arith, long, length-append came rest, fed.size, fed.is_sound.size, size, ap (sound_size s.interleaving s.channels) sum) in (
          samples_of s bits rest,
          ap (λ n. samples_of s n (came ++ rest)) (sym sum) ∙ law Dop s.interleaving s.channels done bits came rest fed.is_sound.some_channel (fed.groups less) fed.size rest_long,
        ))
    | inr all ↦ (
        let is : s.count ≡ done = omega (arith, all, fed.within) in
        let none : rest ≡ [] = nil_from_length rest (omega (arith, long, length-append came rest, fed.size, fed.is_sound.size, ap (sound_size s.interleaving s.channels) is)) in (
          [],
          ap₂ (λ n xs. samples_of s n xs) is (ap (λ xs. came ++ xs) none ∙ append-nil came) ∙ sym (append-nil (samples_of s done came)),
        ))
  ]

  -- the bytes before the samples and the first samples begin the file
  pub file_begins : (s : Sound) (done : ℕ) (came rest : List ℕ) → IsFed s done came → length (came ++ rest) ≡ s.size → (more : List ℕ) × (file_of_sound s (came ++ rest) ≡ (head_of_sound s ++ samples_of s done came) ++ more)
  file_begins s done came rest fed long =
      let head = head_of_sound s in
      let made = samples_of s done came in
      let more = samples_begin s done came rest fed long in
      let tail = dop_tail s.channels s.count in (
        more.0 ++ tail,
        ap (λ xs. head ++ (xs ++ tail)) more.1 ∙ ap (λ xs. head ++ xs) (append_assoc made more.0 tail) ∙ sym (append_assoc head made (more.0 ++ tail)),
      )

  -- ---- the sink
  module _ {W : Type 0} (held : W → Option (List ℕ)) (first old new : DopSink W) where
    abbrev a : Option (List ℕ)
    a = held (outlet_writer first.outlet.now)

    abbrev b : Option (List ℕ)
    b = held (outlet_writer old.outlet.now)

    abbrev c : Option (List ℕ)
    c = held (outlet_writer new.outlet.now)

    module _ (part : SoundPart) (before bytes : List ℕ) (fed : IsFed part.sound part.done before) (is : IsDopPlaying held first old part.sound part.done before) (long : length bytes ≡ sound_size part.sound.interleaving part.sound.channels part.bits) (reference : new.outlet.ghost_name ≡ old.outlet.ghost_name) where
      abbrev s : Sound
      s = part.sound

      abbrev made : List ℕ
      made = samples_of s part.bits bytes

      abbrev so_far : List ℕ
      so_far = samples_of s part.done before

      joined : (head_of_sound s ++ so_far) ++ made ≡ head_of_sound s ++ samples_of s (part.done + part.bits) (before ++ bytes)
      joined = append_assoc (head_of_sound s) so_far made ∙ ap (λ xs. head_of_sound s ++ xs) (sym (samples_on part before bytes fed long))

      pub playing_on : Appends b c made → outlet_failures new.outlet.now ≡ outlet_failures old.outlet.now → IsDopPlaying held first new s (part.done + part.bits) (before ++ bytes)
      playing_on out failures = record {
        same = reference ∙ is.same;
        divided = is.divided;
        fits = is.fits;
        ready = is.ready;
        written = subst (Appends a c) joined (Appends-trans a b c (head_of_sound s ++ so_far) made is.written out);
        failures = failures ∙ is.failures;
      }

      pub playing_refuses : (f : StreamFault) → IsWritingFault f → AppendsPrefix b c made → outlet_failures new.outlet.now ≡ outlet_failures old.outlet.now + failed_writes {X = Unit {0}} (Err f) → RefusesDop held first new s (before ++ bytes) f
      playing_refuses f fault out failures = record {
        same = reference ∙ is.same;
        fault = writing_is_own s f fault;
        unwritten = λ early. absurd (writing_later f fault early);
        prefix = λ rest whole.
            let more = file_begins s (part.done + part.bits) (before ++ bytes) rest (fed_on part before fed bytes long) whole in
            let all : file_of_sound s ((before ++ bytes) ++ rest) ≡ ((head_of_sound s ++ so_far) ++ made) ++ more.0 = more.1 ∙ ap (λ xs. xs ++ more.0) (sym joined) in
            subst (AppendsPrefix a c) (sym all) (prefix_more a c ((head_of_sound s ++ so_far) ++ made) more.0 (prefix_on a b c (head_of_sound s ++ so_far) made is.written out));
        failures = failures ∙ ap (λ n. n + failed_writes {X = Unit {0}} (Err f)) is.failures;
      }

-- ---- what is played of a file that begins with the prefix of one
pub record IsText (s : Sound) (came bytes : List ℕ) : Type 0 where
  pub divided : s.rate % 16 ≡ 0
  pub fits : FitsDop s.channels s.count
  pub rest : List ℕ
  pub long : length (came ++ rest) ≡ s.size
  pub is : bytes ≡ file_of_sound s (came ++ rest)

-- the text of channels that a sound has
text_is : (r : Content) (s : Sound) (file : List ℕ) → HasSound file r s → dop_text r.rate r.channels ≡ file_of_sound s (sound_bytes file s)
text_is r s file has =
    (λ j. dop_head (has.rate j) (has.number j) (has.count j) ++ (native Dop (has.channels j) ++ dop_tail (has.number j) (has.count j)))

fits_is : (r : Content) (s : Sound) (file : List ℕ) → HasSound file r s → dop_riff_size (length r.channels) (count_of r.channels) ≡ dop_riff_size s.channels s.count
fits_is r s file has = ap₂ dop_riff_size has.number has.count

pub text_came : (s : Sound) (came file bytes : List ℕ) → BeginsSound s came file → length came ≤ s.size → PlaysDop file bytes → IsText s came bytes
text_came s came file bytes begins few plays =
    let r = plays.recording in
    let whole_file = begins.prefix ++ begins.rest in
    let has : HasSound whole_file r s = begins.states.has begins.rest r (subst (λ f. HoldsRecording f r) begins.file_is plays.file_holds) in
    let ahead = drop s.start begins.prefix in
    let rest = take (s.size - length came) begins.more in
    let here : sound_bytes whole_file s ≡ take s.size (ahead ++ begins.rest) = ap (take s.size) (drop-append-le s.start begins.prefix begins.rest begins.states.within) in
    let whole : take s.size (ahead ++ begins.rest) ≡ came ++ rest = ap (take s.size) begins.sound_is ∙ whole_is s.size came begins.more ∙ ap (λ zs. zs ++ take (s.size - length zs) begins.more) (take_all s.size came few) in
    record {
      divided = subst (λ n. n % 16 ≡ 0) has.rate plays.divided;
      fits = omega (arith, plays.fits, fits_is r s whole_file has);
      rest = rest;
      long = ap length (sym (here ∙ whole)) ∙ length-take s.size (drop s.start whole_file) ∙ omega (arith, length-drop s.start whole_file, has.in_file);
      is = plays.text ∙ text_is r s whole_file has ∙ ap (file_of_sound s) (here ∙ whole);
    }

-- ---- whose whole sound came
module _ (o : Surroundings) (stated : AreStated o) (file sound : List ℕ) (stands : IsPlacedIn o file sound) where
  abbrev after : List ℕ
  after = stands.gap ++ (o.back ++ stands.rest)

  own : (xs : List ℕ) → drop o.sound.start (o.head ++ xs) ≡ xs
  own xs = ap (λ n. drop n (o.head ++ xs)) stated.start ∙ drop-append_seam o.head xs

  pub plays_held : o.sound.rate % 16 ≡ 0 → FitsDop o.sound.channels o.sound.count → PlaysDop file (file_of_sound o.sound sound)
  plays_held divided fits =
      let s = o.sound in
      let r = with_sound o.recording s sound in
      let holds : HoldsRecording file r = holds_in s.interleaving file r (stated.holds file sound stands) in
      let has : HasSound file r s = subst (λ f. HasSound f r s) (sym stands.file_is) (stated.states.has (sound ++ after) r (subst (λ f. HoldsRecording f r) stands.file_is holds)) in
      let bytes : sound_bytes file s ≡ sound = ap (λ f. take s.size (drop s.start f)) stands.file_is ∙ ap (take s.size) (own (sound ++ after)) ∙ ap (λ n. take n (sound ++ after)) (sym stands.sound_long) ∙ take-append_seam sound after in
      record {
        recording = r;
        file_holds = holds;
        divided = subst (λ n. n % 16 ≡ 0) (sym has.rate) divided;
        fits = omega (arith, fits, fits_is r s file has);
        text = sym (text_is r s file has ∙ ap (file_of_sound s) bytes);
      }

  pub begins_held : (more : List ℕ) → BeginsSound o.sound sound (file ++ more)
  begins_held more = record {
    prefix = o.head;
    rest = sound ++ (after ++ more);
    file_is = ap (λ xs. xs ++ more) stands.file_is ∙ append_assoc o.head (sound ++ after) more ∙ ap (λ xs. o.head ++ xs) (append_assoc sound after more);
    states = stated.states;
    more = after ++ more;
    sound_is = sym (drop-append-le o.sound.start o.head (sound ++ (after ++ more)) stated.states.within) ∙ own (sound ++ (after ++ more));
  }
