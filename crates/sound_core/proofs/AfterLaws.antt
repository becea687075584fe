-- What is around the sound of a DSDIFF file, and of a whole file whose prefix was read before.
use Rattle.std.proofs.Common.{◌≡◌, ◌≢◌, ℕ, ◌+◌, ◌%◌, ◌<◌, ◌≤◌, ◌⊎◌, inl, inr, min, Bool, true, false, List, [], ◌++◌, length, take, drop, Option, Some, None, IfSome, Result, Err, refl, sym, subst, ap, ap₂, ◌∙◌, arith, append_assoc, append-nil, length-append, length-drop, length-take, take-append-drop}
use Rattle.std.proofs.lemmas.List.{nil_from_length, take_all}
use Rattle.std.proofs.lemmas.Bool.{le-ltb, lt-ltb, ltb-false, ltb-true}
use Rattle.std.proofs.Math.Seq.{drop-append_seam, take-append_seam}
use Rattle.std.specs.Io.KnownBytes.{IsAtEnd}
use Rattle.std.specs.Prelude.{◌↔◌, nat_lt}
use Rattle.chunk_core.specs.Inlets.{inlet_given, inlet_reader}
use Rattle.chunk_core.specs.declared.inlet.Inlet.{Inlet}
use Rattle.dsd_bits.specs.declared.interleaving.Interleaving.{Interleaving}
use Rattle.dsd_bits.specs.declared.interleaving.Interleaving.TheVariants.{Bytes, Blocks}
use Rattle.dsd_bits.specs.declared.sound.Sound.{Sound}
use Rattle.dsd_bits.specs.Contents.{Content}
use Rattle.dsd_bits.specs.Lacing.{unlaced_all}
use Rattle.dsd_bits.specs.Sounds.{IsSound, sound_channels}
use Rattle.dsdiff_core.specs.Files.{IsDsdiff}
use Rattle.dsdiff_core.specs.declared.fault.DsdiffFault.{DsdiffFault}
use Rattle.dsdiff_core.specs.declared.fault.DsdiffFault.TheVariants as dsdiff_faults
use Rattle.dsdiff_core.specs.Fields.{form_size}
use Rattle.dsdiff_core.specs.Headers as dsdiff
use Rattle.dsdiff_core.specs.Located.{EndsAtHead, stated_size}
use Rattle.dsdiff_core.specs.Reading.{recording_of}
use Rattle.dsdiff_core.specs.Steps.{Fails}
use Rattle.dsdiff_core.proofs.CutLaws.{form_is_read}
use Rattle.dsdiff_core.proofs.HeadLaws.{ends_at_head}
use Rattle.dsdiff_core.proofs.LeadLaws.{number_prefix}
use Rattle.dsdiff_core.proofs.WalkLaws as form_walk
use Rattle.form_core.specs.Faults.{dsdiff_fault}
use Rattle.form_core.specs.Opening.{opened_of}
use Rattle.form_core.specs.declared.fault.ReadFault.{ReadFault}
use Rattle.dsdiff_core.specs.Outlines as frames
use Rattle.sound_core.specs.Files.{HoldsRecording, IsHeaderOf, IsRefused, LeadsToSound}
use Rattle.sound_core.specs.Outlines.{AreStated, HoldsIn, KeepsAfter, IsOutlineFault, IsRestFault, IsPlacedIn, Surroundings, Surrounds}
use Rattle.sound_core.specs.Causes.{HasPrefix, IsCause, IsNamed}
use Rattle.sound_core.specs.Naming.{IsRestNamed, IsSure, NamesFault, is_memory}
use Rattle.sound_core.specs.Readers.{FallsShort, IsPassFault, Passes}
use Rattle.sound_core.specs.Reads.{Reads}
use Rattle.sound_core.specs.Sinks.{BeginsSound, IsFed, StopsSound, StopsTaking}
use Rattle.sound_core.specs.declared.reader.SoundReader.{SoundReader}
use Rattle.sound_core.specs.declared.fault.StreamFault.{StreamFault}
use Rattle.sound_core.specs.declared.fault.StreamFault.TheVariants.{FileRefused, RateNotDivided, TooLarge, ReadFailed, WriteFailed, TurnLimit, Memory}
use Rattle.sound_core.proofs.NamingLaws.{cut_form, sure_all, sure_end}
use Rattle.sound_core.proofs.ClosingLaws.{ends, ends_at, form_ends_at, found, nothing_left, same_form}
use Rattle.sound_core.proofs.HeadLaws.{never_found}
use Rattle.sound_core.proofs.OutlineLaws.{left_is}
use Rattle.sound_core.proofs.ReadLaws.{reads_on}
use Rattle.sound_core.proofs.TakingLaws.{begins_passed}
use Rattle.sound_core.proofs.StatedLaws.{states_at}

-- a fault that is no want of memory
pub not_memory : (e : DsdiffFault) → is_memory e ≡ false → e ≢ dsdiff_faults.Memory
not_memory e other same = (let both : true ≡ false = ap is_memory (sym same) ∙ other in absurd cc)

-- a fault that is known
pub fails_is : {A : Type 0} (e : DsdiffFault) (r : Result A DsdiffFault) → e ≢ dsdiff_faults.Memory → Fails e r → r ≡ Err e
fails_is dsdiff_faults.Memory r some h = absurd (some refl)
fails_is e r some h = h

-- ---- a DSDIFF file
-- what is kept of the bytes after a sound: those of the form; whether the file ends with them
pub record IsAfterSound (head : List ℕ) (size : ℕ) (all back : List ℕ) (ends : Bool) (new : Option (List ℕ)) : Type 0 where
  pub rest : List ℕ
  pub parts : all ≡ back ++ rest
  pub shorter : ends ≡ true → (rest ≡ []) × IsAtEnd new
  pub whole : ends ≡ false → length back ≡ dsdiff.left_after head size
  pub less : ends ≡ true → length back < dsdiff.left_after head size

pub is_after : (head : List ℕ) (size : ℕ) (all back : List ℕ) (ends : Bool) (new : Option (List ℕ)) (wanted : ℕ) → wanted ≡ dsdiff.left_after head size → (wanted ≤ length all) ⊎ IsAtEnd new
    → ends ≡ nat_lt (length all) wanted → back ≡ take (min (length all) wanted) all → IsAfterSound head size all back ends new
is_after head size all back ends new wanted left enough short cut = record {
  rest = drop (min (length all) wanted) all;
  parts = sym (take-append-drop (min (length all) wanted) all) ∙ ap (λ xs. xs ++ drop (min (length all) wanted) all) (sym cut);
  shorter = λ yes. (
      let fewer : length all < wanted = ltb-true (length all) wanted (sym short ∙ yes) in
      (nil_from_length (drop (min (length all) wanted) all) (omega (arith, length-drop (min (length all) wanted) all, fewer)), at_end enough fewer));
  whole = λ no. (let more : wanted ≤ length all = ltb-false (length all) wanted (sym short ∙ no) in omega (arith, more, ap length cut, length-take (min (length all) wanted) all, left));
  less = λ yes. (let fewer : length all < wanted = ltb-true (length all) wanted (sym short ∙ yes) in omega (arith, fewer, ap length cut, length-take (min (length all) wanted) all, left));
}
  where
    at_end : (wanted ≤ length all) ⊎ IsAtEnd new → length all < wanted → IsAtEnd new
    at_end (inl more) fewer = absurd (omega (arith, more, fewer))
    at_end (inr end) fewer = end

module _ (head : List ℕ) (s : Sound) (at : IsHeaderOf head s) (stated : s.interleaving ≡ Bytes) (is_sound : IsSound s) (whole_bytes : s.count % 8 ≡ 0) where
  -- bytes after a whole form change nothing of what a file holds
  followed : (sound back rest : List ℕ) (ends : Bool) (r : Content) → length sound ≡ s.size → (ends ≡ true → rest ≡ []) → (ends ≡ false → dsdiff.left_after head s.size ≤ length back)
      → IsDsdiff (head ++ (sound ++ back)) r ↔ IsDsdiff (head ++ (sound ++ (back ++ rest))) r
  followed sound back rest false r long none enough = same_form head s at stated sound back rest r long (enough refl)
  followed sound back rest true r long none enough =
      let same : back ++ rest ≡ back = ap (λ xs. back ++ xs) (none refl) ∙ append-nil back in
      (λ is. subst (λ xs. IsDsdiff (head ++ (sound ++ xs)) r) (sym same) is, λ is. subst (λ xs. IsDsdiff (head ++ (sound ++ xs)) r) same is)

  -- where nothing but this is kept of the bytes after the sound
  kept_after : (back rest : List ℕ) (ends : Bool) → (ends ≡ false → length back ≡ dsdiff.left_after head s.size) → (ends ≡ true → length back < dsdiff.left_after head s.size) → (ends ≡ true → rest ≡ [])
      → (back ≡ take (dsdiff.left_after head s.size) (back ++ rest)) × (ends ≡ nat_lt (length (back ++ rest)) (dsdiff.left_after head s.size))
  kept_after back rest false exact less none =
      let n = dsdiff.left_after head s.size in
      (sym (ap (λ m. take m (back ++ rest)) (sym (exact refl)) ∙ take-append_seam back rest), sym (le-ltb (length (back ++ rest)) n (omega (arith, exact refl, length-append back rest))))
  kept_after back rest true exact less none =
      let n = dsdiff.left_after head s.size in
      let same : back ++ rest ≡ back = ap (λ xs. back ++ xs) (none refl) ∙ append-nil back in
      (sym (ap (take n) same ∙ take_all n back (omega (arith, less refl))), sym (lt-ltb (length (back ++ rest)) n (omega (arith, less refl, ap length same))))

  module _ (back : List ℕ) (ends : Bool) (exact : ends ≡ false → length back ≡ dsdiff.left_after head s.size) (less : ends ≡ true → length back < dsdiff.left_after head s.size) (recording : Content) (outline : frames.StatesOutline head s back (Some recording)) where
    abbrev own : Surroundings
    own = record { sound = s; head = head; gap = 0; back = back; ends = ends; recording = recording }

    frames_stated : AreStated own
    frames_stated = record {
      states = states_at head s at;
      start = at.start;
      is_sound = is_sound;
      whole = λ _. whole_bytes;
      silent = outline.0;
      keeps = λ file sound stands.
          let none : stands.gap ≡ [] = nil_from_length stands.gap stands.gap_long in
          let is : file ≡ (head ++ sound) ++ (back ++ stands.rest) = stands.file_is ∙ ap (λ xs. head ++ (sound ++ (xs ++ (back ++ stands.rest)))) none ∙ sym (append_assoc head sound (back ++ stands.rest)) in
          let place : s.start + s.size ≡ length (head ++ sound) = omega (arith, at.start, stands.sound_long, length-append head sound) in
          let after : drop (s.start + s.size) file ≡ back ++ stands.rest = ap₂ (λ n xs. drop n xs) place is ∙ drop-append_seam (head ++ sound) (back ++ stands.rest) in
          let kept = kept_after back stands.rest ends exact less stands.ended in
          subst (λ i. KeepsAfter i own file) (sym stated) (refl, rw after kept.0, rw after kept.1);
      holds = λ file sound stands.
          let none : stands.gap ≡ [] = nil_from_length stands.gap stands.gap_long in
          let is : file ≡ head ++ (sound ++ (back ++ stands.rest)) = stands.file_is ∙ ap (λ xs. head ++ (sound ++ (xs ++ (back ++ stands.rest)))) none in
          let holds = (followed sound back stands.rest ends (record recording { channels = unlaced_all sound s.channels }) stands.sound_long stands.ended (λ no. omega (arith, exact no))).0 (outline.1 sound stands.sound_long) in
          in_order s.interleaving stated file sound (subst (λ f. IsDsdiff f (record recording { channels = unlaced_all sound s.channels })) (sym is) holds);
    }
      where
        in_order : (o : Interleaving) → o ≡ Bytes → (file sound : List ℕ) → IsDsdiff file (record recording { channels = unlaced_all sound s.channels }) → HoldsIn o file (record recording { channels = sound_channels o s.channels s.count sound })
        in_order Bytes is file sound h = h
        in_order (Blocks order) is file sound h = absurd cc

  pub frames_around : {R : Type 0} (left : R → Option (List ℕ)) (i j : Inlet R) (old all back read : List ℕ) (ends : Bool) (recording : Content) → Reads left i j read → all ≡ old ++ read → IsAfterSound head s.size all back ends (left (inlet_reader j))
      → frames.StatesOutline head s back (Some recording) → Surrounds left i j old (record { sound = s; head = head; gap = 0; back = back; ends = ends; recording = recording })
  frames_around left i j old all back read ends recording reads is after outline = record {
    read = read;
    reads = reads;
    stated = frames_stated back ends after.whole after.less recording outline;
    given = λ sound long. record {
      gap = [];
      rest = after.rest;
      file_is = ap (λ xs. head ++ (sound ++ xs)) (sym is ∙ after.parts);
      sound_long = long;
      gap_long = refl;
      ended = λ yes. (after.shorter yes).0;
    };
    stands = λ sound rest long known. record {
      gap = [];
      rest = after.rest ++ rest;
      file_is = ap (λ xs. head ++ (sound ++ xs)) (sym (append_assoc old read rest) ∙ ap (λ xs. xs ++ rest) (sym is ∙ after.parts) ∙ append_assoc back after.rest rest);
      sound_long = long;
      gap_long = refl;
      ended = λ yes. ap₂ (λ xs ys. xs ++ ys) (after.shorter yes).0 (nothing_left (left (inlet_reader j)) rest (after.shorter yes).1 known);
    };
  }

  pub frames_refused : {R : Type 0} (left : R → Option (List ℕ)) (i j : Inlet R) (old all back read : List ℕ) (ends : Bool) → Reads left i j read → all ≡ old ++ read → IsAfterSound head s.size all back ends (left (inlet_reader j))
      → frames.StatesOutline head s back None → IsRestFault (left (inlet_reader i)) s head old FileRefused
  frames_refused left i j old all back read ends reads is after refused = by (left (inlet_reader i)) refl
    where
      by : (o : Option (List ℕ)) → left (inlet_reader i) ≡ o → IsRestFault o s head old FileRefused
      by None known = tt
      by (Some xs) known =
          let ys = left_is left i j read reads xs known in
          λ sound long r holds.
          let parted : old ++ xs ≡ back ++ (after.rest ++ ys.0) = ap (λ zs. old ++ zs) ys.2 ∙ sym (append_assoc old read ys.0) ∙ ap (λ zs. zs ++ ys.0) (sym is ∙ after.parts) ∙ append_assoc back after.rest ys.0 in
          elim (subst (λ zs. HoldsRecording (head ++ (sound ++ zs)) r) parted holds) [
            | inl form ↦ (
                let none = λ (yes : ends ≡ true). ap₂ (λ us vs. us ++ vs) (after.shorter yes).0 (nothing_left (left (inlet_reader j)) ys.0 (after.shorter yes).1 ys.1) in
                let short = (followed sound back (after.rest ++ ys.0) ends r long none (λ no. omega (arith, after.whole no))).1 form in
                refused sound long (r, short))
            | inr (order, is_dsf) ↦ never_found head (sound ++ (back ++ (after.rest ++ ys.0))) s r order (found head s at stated) is_dsf
          ]

  -- the fault of what surrounds the sound is that of all that is known
  pub frames_named : (new : Option (List ℕ)) (old all back read : List ℕ) (ends : Bool) (e : DsdiffFault) → all ≡ old ++ read → IsAfterSound head s.size all back ends new → e ≢ dsdiff_faults.Memory
      → ((sound : List ℕ) → length sound ≡ stated_size head → Fails e (recording_of (head ++ (sound ++ back)))) → (sound : List ℕ) → length sound ≡ s.size → IsSure new (head ++ (sound ++ (old ++ read))) (dsdiff_fault e)
  frames_named new old all back read final e is after some fails sound long = by final refl
    where
      h : EndsAtHead head
      h = (ends_at_head head s (form_ends_at head s at stated)).0

      least : 28 ≤ length head
      least = form_walk.long head h

      file : List ℕ
      file = head ++ (sound ++ back)

      here : recording_of file ≡ Err e
      here = fails_is e (recording_of file) some (fails sound (long ∙ (ends_at_head head s (form_ends_at head s at stated)).1))

      named : (more : List ℕ) → recording_of (head ++ more) ≡ Err e → opened_of (head ++ more) ≡ Err (dsdiff_fault e)
      named more = cut_form head more s e (form_ends_at head s at stated)

      joined : (more : List ℕ) → file ++ more ≡ head ++ (sound ++ (back ++ more))
      joined more = append_assoc head (sound ++ back) more ∙ ap (λ xs. head ++ xs) (append_assoc sound back more)

      parts : old ++ read ≡ back ++ after.rest
      parts = sym is ∙ after.parts

      by : (b : Bool) → final ≡ b → IsSure new (head ++ (sound ++ (old ++ read))) (dsdiff_fault e)
      by true whole_file =
          let last = after.shorter whole_file in
          let all_back : old ++ read ≡ back = parts ∙ ap (λ xs. back ++ xs) last.0 ∙ append-nil back in
          sure_end new (head ++ (sound ++ (old ++ read))) (dsdiff_fault e) last.1 (subst (λ xs. opened_of (head ++ (sound ++ xs)) ≡ Err (dsdiff_fault e)) (sym all_back) (named (sound ++ back) here))
      by false whole_form =
          let size : form_size file ≡ form_size head = number_prefix 8 4 head (sound ++ back) (omega (arith, least)) in
          let whole : 12 + form_size file ≤ length file = omega (arith, size, after.whole whole_form, long, length-append head (sound ++ back), length-append sound back) in
          sure_all new (head ++ (sound ++ (old ++ read))) (dsdiff_fault e) (λ rest.
          let more : List ℕ = after.rest ++ rest in
          let file_is : (head ++ (sound ++ (old ++ read))) ++ rest ≡ head ++ (sound ++ (back ++ more)) =
          append_assoc head (sound ++ (old ++ read)) rest ∙ ap (λ xs. head ++ xs) (append_assoc sound (old ++ read) rest ∙ ap (λ xs. sound ++ xs) (ap (λ xs. xs ++ rest) parts ∙ append_assoc back after.rest rest)) in
          let same : recording_of (head ++ (sound ++ (back ++ more))) ≡ Err e = subst (λ f. recording_of f ≡ Err e) (joined more) (form_is_read file more (omega (arith, least, length-append head (sound ++ back))) whole ∙ here) in
          subst (λ f. opened_of f ≡ Err (dsdiff_fault e)) (sym file_is) (named (sound ++ (back ++ more)) same))

-- ---- the whole file, of which the prefix was read, and then the sound passed
module _ {R : Type 0} (left : R → Option (List ℕ)) (i j : Inlet R) (prefix head ahead : List ℕ) (s : Sound) (reads : Reads left i j prefix) (states : LeadsToSound prefix s) (head_is : head ≡ take s.start prefix) (ahead_is : ahead ≡ drop s.start prefix) where
  prefix_is : prefix ≡ head ++ ahead
  prefix_is = sym (take-append-drop s.start prefix) ∙ ap₂ (λ xs ys. xs ++ ys) (sym head_is) (sym ahead_is)

  head_long : length head ≡ s.start
  head_long = omega (arith, ap length head_is, length-take s.start prefix, states.within)

  -- the head ends at the sound
  pub at_sound : IsHeaderOf head s
  at_sound = subst (λ xs. IsHeaderOf xs s) (sym head_is) (ends_at prefix s states)

  -- a file that holds a recording has all of its sound
  pub pass_holds : (f : StreamFault) → IsPassFault (left (inlet_reader j)) s.size ahead f → IsOutlineFault (left (inlet_reader i)) f
  pass_holds FileRefused h = by (left (inlet_reader i)) refl
    where
      by : (o : Option (List ℕ)) → left (inlet_reader i) ≡ o → IsOutlineFault o FileRefused
      by None known = tt
      by (Some xs) known =
          let ys = left_is left i j prefix reads xs known in
          let fewer : length (ahead ++ ys.0) < s.size = subst (λ o. IsPassFault o s.size ahead FileRefused) ys.1 h in
          λ r holds.
          let has = states.has ys.0 r (subst (λ f. HoldsRecording f r) ys.2 holds) in
          omega (arith, fewer, has.in_file, length-append prefix ys.0, length-append ahead ys.0, length-append head ahead, ap length prefix_is, head_long)
  pass_holds RateNotDivided h = absurd h
  pass_holds TooLarge h = absurd h
  pass_holds ReadFailed h = tt
  pass_holds WriteFailed h = absurd h
  pass_holds TurnLimit h = tt
  pass_holds Memory h = tt

  -- a file that ends inside its sound
  pub short_named : (l : Inlet R) (e : ReadFault) (total : ℕ) → (short : FallsShort left j l s.size ahead) → total ≡ length head + length ahead + length short.read
      → ((rest : List ℕ) → length (head ++ rest) ≡ total → total < length head + s.size → opened_of (head ++ rest) ≡ Err e) → NamesFault left i l e
  short_named l e total short size fails =
      let file : prefix ++ short.read ≡ head ++ (ahead ++ short.read) = ap (λ xs. xs ++ short.read) prefix_is ∙ append_assoc head ahead short.read in
      let few : total < length head + s.size = omega (arith, size, short.few, length-append ahead short.read) in
      record {
        read = prefix ++ short.read;
        reads = reads_on left i j l prefix short.read reads short.reads;
        sure = sure_end (left (inlet_reader l)) (prefix ++ short.read) e short.at_end (subst (λ f. opened_of f ≡ Err e) (sym file) (fails (ahead ++ short.read) (omega (arith, size, length-append head (ahead ++ short.read), length-append ahead short.read)) few));
      }

  -- what came of the sound begins it
  begins_sound : (came : List ℕ) → IfSome (left (inlet_reader j)) (λ xs. (more : List ℕ) × (ahead ++ xs ≡ came ++ more)) → IfSome (left (inlet_reader i)) (BeginsSound s came)
  begins_sound came begins = by (left (inlet_reader i)) refl
    where
      by : (o : Option (List ℕ)) → left (inlet_reader i) ≡ o → IfSome o (BeginsSound s came)
      by None known = tt
      by (Some xs) known =
          let ys = left_is left i j prefix reads xs known in
          let all = subst (λ o. IfSome o (λ zs. (more : List ℕ) × (ahead ++ zs ≡ came ++ more))) ys.1 begins in
          record { prefix = prefix; rest = ys.0; file_is = ys.2; states = states; more = all.0; sound_is = ap (λ zs. zs ++ ys.0) (sym ahead_is) ∙ all.1 }

  pub stops_in_sound : {S : Type 0} (has : S → S → Sound → ℕ → List ℕ → Type 0) (refused : S → S → Sound → List ℕ → StreamFault → Type 0) (k : Inlet R) (old new : S) (f : StreamFault)
      → StopsSound left has refused s j k old new ahead f → StopsTaking has refused (left (inlet_reader i)) (inlet_given i) (inlet_given k) old new f
  stops_in_sound has refused k old new f stops = inr (record {
    sound = s;
    came = stops.came;
    few = stops.few;
    begins = begins_sound stops.came stops.begins;
    how = elim stops.how [
      | inl ends ↦ inl (record {
        done = ends.done;
        fed = ends.fed;
        taken = ends.taken;
        fault = pass_holds f ends.fault;
        pace = λ stop. omega (arith, ends.pace stop, reads.given, ap length prefix_is, length-append head ahead, head_long);
      })
      | inr refuses ↦ inr refuses
    ];
  })

  module _ (k : Inlet R) (back : List ℕ) (passes : Passes left j k s.size ahead back) where
    -- the reading ended after the sound
    pub stops_after : {S : Type 0} (has : S → S → Sound → ℕ → List ℕ → Type 0) (refused : S → S → Sound → List ℕ → StreamFault → Type 0) (l : Inlet R) (old new : S) (f : StreamFault)
        → IsFed s s.count passes.passed → has old new s s.count passes.passed → IsOutlineFault (left (inlet_reader i)) f → StopsTaking has refused (left (inlet_reader i)) (inlet_given i) (inlet_given l) old new f
    stops_after has refused l old new f fed taken fault = inr (record {
      sound = s;
      came = passes.passed;
      few = omega (arith, passes.long);
      begins = begins_sound passes.passed (begins_passed left j k s.size ahead back passes);
      how = inl (record { done = s.count; fed = fed; taken = taken; fault = fault; pace = λ stop. omega (arith, passes.long) });
    })

    -- how many bytes were given so far
    pub given_is : (given : ℕ) → inlet_given i ≡ given → inlet_given k ≡ given + (length head + s.size + length back)
    given_is given from =
        omega (arith, from, reads.given, passes.reads.given, passes.long, ap length prefix_is, ap length passes.parts, length-append head ahead, length-append ahead passes.read, length-append passes.passed back)

    -- what was read so far
    read_is : (more : List ℕ) → prefix ++ (passes.read ++ more) ≡ head ++ (passes.passed ++ (back ++ more))
    read_is more =
        ap (λ xs. xs ++ (passes.read ++ more)) prefix_is ∙ append_assoc head ahead (passes.read ++ more)
        ∙ ap (λ xs. head ++ xs) (sym (append_assoc ahead passes.read more) ∙ ap (λ xs. xs ++ more) passes.parts ∙ append_assoc passes.passed back more)

    -- the file is the head, the sound, what was read after it, and what is left
    parted : (xs : List ℕ) → left (inlet_reader i) ≡ Some xs → (ys : List ℕ) × (left (inlet_reader k) ≡ Some ys) × (xs ≡ head ++ (passes.passed ++ (back ++ ys)))
    parted xs known =
        let ys = left_is left i j prefix reads xs known in
        let zs = left_is left j k passes.read passes.reads ys.0 ys.1 in
        (zs.0, zs.1, ys.2 ∙ ap (λ us. prefix ++ us) zs.2 ∙ read_is zs.0)

    pub rest_holds : (f : StreamFault) → IsRestFault (left (inlet_reader k)) s head back f → IsOutlineFault (left (inlet_reader i)) f
    rest_holds FileRefused h = by (left (inlet_reader i)) refl
      where
        by : (o : Option (List ℕ)) → left (inlet_reader i) ≡ o → IsOutlineFault o FileRefused
        by None known = tt
        by (Some xs) known =
            let ys = parted xs known in
            subst IsRefused (sym ys.2) (subst (λ o. IsRestFault o s head back FileRefused) ys.1 h passes.passed passes.long)
    rest_holds RateNotDivided h = absurd h
    rest_holds TooLarge h = absurd h
    rest_holds ReadFailed h = tt
    rest_holds WriteFailed h = absurd h
    rest_holds TurnLimit h = tt
    rest_holds Memory h = tt

    pub rest_named : (P : Type 0) (r : SoundReader R) (f : StreamFault) → IsRestNamed left k r.inlet.now s head back r.cause f → IsNamed P left i r f
    rest_named P r f named = λ is.
        let known = named is in
        let names : NamesFault left i r.inlet.now known.0 = record {
          read = prefix ++ (passes.read ++ known.2.0);
          reads = reads_on left i j r.inlet.now prefix (passes.read ++ known.2.0) reads (reads_on left j k r.inlet.now passes.read known.2.0 passes.reads known.2.1);
          sure = subst (λ xs. IsSure (left (inlet_reader r.inlet.now)) xs known.0) (sym (read_is known.2.0)) (known.2.2 passes.passed passes.long);
        } in
        subst (IsCause P left i r) (sym known.1) names

    -- its prefix is not what tells it
    pub rest_no_prefix : (r : SoundReader R) (f : StreamFault) → IsRestNamed left k r.inlet.now s head back r.cause f → f ≡ FileRefused → HasPrefix r.cause → ⊥
    rest_no_prefix r f named is prefix = subst HasPrefix (named is).1 prefix

    module _ (l : Inlet R) (o : Surroundings) (sound_is : o.sound ≡ s) (own_head : o.head ≡ head) (surrounds : Surrounds left k l back o) where
      long : length passes.passed ≡ o.sound.size
      long = passes.long ∙ ap (λ (t : Sound). t.size) (sym sound_is)

      -- what was read is that sound in the surroundings
      pub given_holds : Reads left i l (prefix ++ (passes.read ++ surrounds.read)) × IsPlacedIn o (prefix ++ (passes.read ++ surrounds.read)) passes.passed
      given_holds = (
        reads_on left i j l prefix (passes.read ++ surrounds.read) reads (reads_on left j k l passes.read surrounds.read passes.reads surrounds.reads),
        subst (λ f. IsPlacedIn o f passes.passed) (ap (λ xs. xs ++ (passes.passed ++ (back ++ surrounds.read))) own_head ∙ sym (read_is surrounds.read)) (surrounds.given passes.passed long),
      )

      -- and so is the file
      pub file_holds : (xs : List ℕ) → left (inlet_reader i) ≡ Some xs → IsPlacedIn o xs passes.passed
      file_holds xs known =
          let ys = parted xs known in
          let zs = left_is left k l surrounds.read surrounds.reads ys.0 ys.1 in
          let is : o.head ++ (passes.passed ++ (back ++ (surrounds.read ++ zs.0))) ≡ xs = ap (λ us. us ++ (passes.passed ++ (back ++ (surrounds.read ++ zs.0)))) own_head ∙ ap (λ us. head ++ (passes.passed ++ (back ++ us))) (sym zs.2) ∙ sym ys.2 in
          subst (λ f. IsPlacedIn o f passes.passed) is (surrounds.stands passes.passed zs.0 long zs.1)
