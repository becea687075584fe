-- The first fault of a file that is read on for it.
use Rattle.std.proofs.Common.{◌≡◌, ◌≢◌, ℕ, ◌+◌, ◌-◌, ◌≤◌, ◌<◌, inl, inr, Bool, true, false, List, ◌++◌, length, take, drop, Option, Result, Ok, Err, IfErr, IfOk, refl, sym, ap, ap₂, subst, ◌∙◌, arith, append_assoc, length-append, length-drop, length-take, take-append-drop}
use Rattle.std.specs.Prelude.{◌⊎◌}
use Rattle.std.proofs.lemmas.Bool.{le-ltb}
use Rattle.std.proofs.lemmas.List.{take-append-le}
use Rattle.std.specs.Io.KnownBytes.{IsAtEnd}
use Rattle.chunk_core.specs.Inlets.{inlet_failures, inlet_given, inlet_reader, inlet_reads}
use Rattle.chunk_core.specs.declared.inlet.Inlet.{Inlet}
use Rattle.dsd_bits.specs.Contents.{Content}
use Rattle.dsdiff_core.specs.declared.fault.DsdiffFault.{DsdiffFault}
use Rattle.dsdiff_core.specs.declared.fault.DsdiffFault.TheVariants as faults
use Rattle.dsdiff_core.specs.Cuts.{EndsAtChunk, GoesPastForm, cut_fault, last_size}
use Rattle.dsdiff_core.specs.Fields.{form_end, form_size}
use Rattle.dsdiff_core.specs.Headers.{form_of, left_after}
use Rattle.dsdiff_core.specs.Kinds.{FRM8}
use Rattle.dsdiff_core.specs.Located.{EndsAtHead, stated_size}
use Rattle.dsdiff_core.specs.Reading.{recording_of}
use Rattle.dsdiff_core.specs.SoundBytes.{description_of}
use Rattle.dsdiff_core.specs.Steps.{Fails}
use Rattle.dsdiff_core.proofs.CutLaws.{cut_is_refused, form_is_read, head_is_chunk}
use Rattle.dsdiff_core.proofs.DescribedLaws.{fault_of}
use Rattle.dsdiff_core.proofs.HeadLaws.{form_ok}
use Rattle.dsdiff_core.proofs.LeadLaws.{after_on, number_prefix}
use Rattle.dsdiff_core.proofs.WalkLaws as form_walk
use Rattle.form_core.specs.Faults.{dsdiff_fault}
use Rattle.form_core.specs.Opening.{opened_of}
use Rattle.form_core.specs.declared.fault.ReadFault.{ReadFault}
use Rattle.form_core.specs.declared.opening.Opened.{Opened}
use Rattle.sound_core.specs.Causes.{HasPrefix, IsRefusedBy, unread_of}
use Rattle.sound_core.specs.Faults.{IsReadingFault, failed_reads}
use Rattle.sound_core.specs.Naming.{IfRefusedAs, IsSure, NamesFault, plain}
use Rattle.sound_core.specs.Readers.{Counts, CountsFault, FallsShort, IsReading, IsSame, Passes}
use Rattle.sound_core.specs.Reads.{Reads, ReadsUntil}
use Rattle.sound_core.specs.declared.cause.Cause.{Cause}
use Rattle.sound_core.specs.declared.fault.StreamFault.{StreamFault}
use Rattle.sound_core.specs.declared.fault.StreamFault.TheVariants as StreamFaults
use Rattle.sound_core.specs.declared.reader.SoundReader.{SoundReader}
use Rattle.sound_core.proofs.AfterLaws.{fails_is}
use Rattle.sound_core.proofs.NamingLaws.{form_starts, sure_all, sure_end}
use Rattle.sound_core.proofs.ReadLaws.{reads_on}
use Rattle.sound_core.proofs.ReaderLaws.{counts_memory, counts_ok, counts_refused, counts_so_far, counts_want, same_counts, same_self}

-- a fault of the description is one of the recording
fails_of : (file : List ℕ) (f : DsdiffFault) → Fails f (description_of file) → Fails f (recording_of file)
fails_of file faults.Memory h = tt
fails_of file f h = fault_of file f h

-- ---- a form that is there whole, or all of the file
opened_ok : (file : List ℕ) (r : Content) (e : ReadFault) → recording_of file ≡ Ok r → opened_of file ≡ Err e → ⊥
unfolding opened_of
opened_ok file r e is fails = (let both = rw is at fails in absurd cc)

pub form_sure : (new : Option (List ℕ)) (file : List ℕ) (e : ReadFault) → 16 ≤ length file → take 4 file ≡ FRM8 → opened_of file ≡ Err e → (12 + form_size file ≤ length file) ⊎ IsAtEnd new → IsSure new file e
form_sure new file e long id fails (inr end) = sure_end new file e end fails
form_sure new file e long id fails (inl whole) = by (recording_of file) refl
  where
    by : (r : Result Content DsdiffFault) → recording_of file ≡ r → IsSure new file e
    by (Ok r) is = absurd (opened_ok file r e is fails)
    by (Err d) is =
        let both : (let r : Result Opened ReadFault = Err (dsdiff_fault d) in r) ≡ Err e = sym (form_starts file d (omega (arith, long)) id is) ∙ fails in
        sure_all new file e (λ rest.
        let starts : take 4 (file ++ rest) ≡ FRM8 = take-append-le 4 file rest (omega (arith, long)) ∙ id in
        form_starts (file ++ rest) d (omega (arith, long, length-append file rest)) starts (form_is_read file rest long whole ∙ is) ∙ both)

-- ---- a chunk whose data go past the end
pub chunk_long : (head : List ℕ) → EndsAtChunk head → 28 ≤ length head
chunk_long head h = omega (arith, after_on 16 h.before, h.no_gap, h.ends)

abbrev stated : DsdiffFault → Result Opened ReadFault
stated d = Err (dsdiff_fault d)

cut_opened : (head more : List ℕ) → EndsAtChunk head → form_end (head ++ more) < length head + last_size head → opened_of (head ++ more) ≡ stated (cut_fault head (length (head ++ more)))
cut_opened head more h short =
    let long = chunk_long head h in
    form_starts (head ++ more) (cut_fault head (length (head ++ more))) (omega (arith, long, length-append head more)) (take-append-le 4 head more (omega (arith, long)) ∙ h.form) (cut_is_refused head more h short)

-- past that of the file
pub cut_end : (new : Option (List ℕ)) (head more : List ℕ) (total : ℕ) → EndsAtChunk head → IsAtEnd new → total ≡ length (head ++ more) → form_end (head ++ more) < length head + last_size head → IsSure new (head ++ more) (dsdiff_fault (cut_fault head total))
cut_end new head more total h end size short =
    sure_end new (head ++ more) (dsdiff_fault (cut_fault head total)) end (cut_opened head more h short ∙ ap (λ (n : ℕ). stated (cut_fault head n)) (sym size))

-- past that of the form, which is there
pub cut_past : (new : Option (List ℕ)) (head more : List ℕ) (total : ℕ) → GoesPastForm head → total ≡ length (head ++ more) → 12 + form_size head ≤ total + 1 → IsSure new (head ++ more) (dsdiff_fault (cut_fault head total))
cut_past new head more total past size whole = sure_all new (head ++ more) (dsdiff_fault (cut_fault head total)) (λ rest.
    let long = chunk_long head past.0 in
    let is : (head ++ more) ++ rest ≡ head ++ (more ++ rest) = append_assoc head more rest in
    let form : form_size (head ++ (more ++ rest)) ≡ form_size head = number_prefix 8 4 head (more ++ rest) (omega (arith, long)) in
    let longer : total ≤ length (head ++ (more ++ rest)) = omega (arith, size, length-append head more, length-append head (more ++ rest), length-append more rest) in
    let same : cut_fault head (length (head ++ (more ++ rest))) ≡ cut_fault head total = rw (
      le-ltb (length (head ++ (more ++ rest)) + 1) (12 + form_size head) (omega (arith, whole, longer)),
      le-ltb (total + 1) (12 + form_size head) whole,
    ) refl in
    subst (λ (f : List ℕ). opened_of f ≡ stated (cut_fault head total)) (sym is) (cut_opened head (more ++ rest) past.0 (omega (arith, form, past.1)) ∙ ap stated same))

-- ---- what was read
pub reads_parted : {R : Type 0} (left : R → Option (List ℕ)) (first i j : Inlet R) (prefix head ahead : List ℕ) (n : ℕ) → Reads left first i prefix → j ≡ i → head ≡ take n prefix → ahead ≡ drop n prefix → Reads left first j (head ++ ahead)
reads_parted {R} left first i j prefix head ahead n reads same head_is ahead_is =
    let whole : prefix ≡ head ++ ahead = sym (take-append-drop n prefix) ∙ ap₂ (λ (xs ys : List ℕ). xs ++ ys) (sym head_is) (sym ahead_is) in
    subst (λ (k : Inlet R). Reads left first k (head ++ ahead)) (sym same) (subst (Reads left first i) whole reads)

pub read_named : {R : Type 0} (left : R → Option (List ℕ)) (first j k : Inlet R) (prefix read file : List ℕ) (e : ReadFault) → Reads left first j prefix → Reads left j k read → prefix ++ read ≡ file → IsSure (left (inlet_reader k)) file e → NamesFault left first k e
read_named left first j k prefix read file e before after is sure = record {
  read = prefix ++ read;
  reads = reads_on left first j k prefix read before after;
  sure = subst (λ (f : List ℕ). IsSure (left (inlet_reader k)) f e) (sym is) sure;
}

-- ---- a form that begins
pub begins : (prefix : List ℕ) → form_of prefix ≡ Ok tt → (take 4 prefix ≡ FRM8) × (16 ≤ length prefix)
begins prefix form =
    let f = form_ok prefix form in
    (f.0, omega (arith, ap length f.1, length-take 4 (drop 12 prefix), length-drop 12 prefix))

module _ {R : Type 0} (left : R → Option (List ℕ)) (first i : Inlet R) where
  -- all of it was read, or all of the file
  pub soundless : (j : Inlet R) (prefix all : List ℕ) (e : ReadFault) → form_of prefix ≡ Ok tt → Reads left first i prefix → (until : ReadsUntil left i j prefix all (12 + form_size prefix)) → opened_of all ≡ Err e → NamesFault left first j e
  soundless j prefix all e form reads until fails =
      let b = begins prefix form in
      let size : form_size all ≡ form_size prefix = ap form_size until.appended ∙ number_prefix 8 4 prefix until.bytes (omega (arith, b.1)) in
      let id : take 4 all ≡ FRM8 = ap (take 4) until.appended ∙ take-append-le 4 prefix until.bytes (omega (arith, b.1)) ∙ b.0 in
      let long : 16 ≤ length all = omega (arith, b.1, ap length until.appended, length-append prefix until.bytes) in
      read_named left first i j prefix until.bytes all e reads until.reads (sym until.appended) (form_sure (left (inlet_reader j)) all e long id fails (elim until.enough [
        | inl enough ↦ inl (omega (arith, enough, size))
        | inr end ↦ inr end
      ]))

  module _ (head ahead : List ℕ) (reads : Reads left first i (head ++ ahead)) where
    -- the chunk whose head this is goes past the form, which is read, or all of the file is
    past_by : (j : Inlet R) (read : List ℕ) (total given : ℕ) → GoesPastForm head → Reads left i j read → inlet_given i ≡ given + (length head + length ahead) → total ≡ inlet_given j - given → (12 + form_size head ≤ total + 1) ⊎ IsAtEnd (left (inlet_reader j))
        → NamesFault left first j (dsdiff_fault (cut_fault head total))
    past_by j read total given past more before counted enough =
        let size : total ≡ length (head ++ (ahead ++ read)) = omega (arith, counted, before, more.given, length-append head (ahead ++ read), length-append ahead read) in
        let form : form_size (head ++ (ahead ++ read)) ≡ form_size head = number_prefix 8 4 head (ahead ++ read) (omega (arith, chunk_long head past.0)) in
        read_named left first i j (head ++ ahead) read (head ++ (ahead ++ read)) (dsdiff_fault (cut_fault head total)) reads more (append_assoc head ahead read) (elim enough [
          | inl whole ↦ cut_past (left (inlet_reader j)) head (ahead ++ read) total past size whole
          | inr end ↦ cut_end (left (inlet_reader j)) head (ahead ++ read) total past.0 end size (omega (arith, form, past.1))
        ])

    pub past_named : (j : Inlet R) (back : List ℕ) (n total given : ℕ) (whole : Bool) → GoesPastForm head → 11 + form_size head ≤ length head + n → (whole ≡ true → Passes left i j n ahead back) → (whole ≡ false → FallsShort left i j n ahead) → inlet_given i ≡ given + (length head + length ahead) → total ≡ inlet_given j - given
        → NamesFault left first j (dsdiff_fault (cut_fault head total))
    past_named j back n total given true past most passed short before counted =
        let passes = passed refl in
        past_by j passes.read total given past passes.reads before counted (inl (omega (arith, counted, before, passes.reads.given, most, passes.long, ap length passes.parts, length-append ahead passes.read, length-append passes.passed back)))
    past_named j back n total given false past most passed short before counted =
        let falls = short refl in
        past_by j falls.read total given past falls.reads before counted (inr falls.at_end)

    -- the file ends inside the sound whose head this is
    pub sound_cut : (j : Inlet R) (n total given : ℕ) → EndsAtHead head → n ≡ stated_size head → (short : FallsShort left i j n ahead) → inlet_given i ≡ given + (length head + length ahead) → total ≡ inlet_given j - given → NamesFault left first j (dsdiff_fault (cut_fault head total))
    sound_cut j n total given h size short before counted =
        let long : total ≡ length (head ++ (ahead ++ short.read)) = omega (arith, counted, before, short.reads.given, length-append head (ahead ++ short.read), length-append ahead short.read) in
        read_named left first i j (head ++ ahead) short.read (head ++ (ahead ++ short.read)) (dsdiff_fault (cut_fault head total)) reads short.reads (append_assoc head ahead short.read)
        (cut_end (left (inlet_reader j)) head (ahead ++ short.read) total (head_is_chunk head h) short.at_end long (omega (arith, short.few, size, length-append head (ahead ++ short.read))))

    -- what follows the sound was read, to the end of the form or the file
    pub sound_passed : (j k : Inlet R) (back all : List ℕ) (n wanted : ℕ) (e : ReadFault) → EndsAtHead head → n ≡ stated_size head → wanted ≡ left_after head (stated_size head) → (passes : Passes left i j n ahead back) → (until : ReadsUntil left j k back all wanted)
        → ((sound : List ℕ) → length sound ≡ stated_size head → opened_of (head ++ (sound ++ all)) ≡ Err e) → NamesFault left first k e
    sound_passed j k back all n wanted e h size rest passes until fails =
        let least : 28 ≤ length head = form_walk.long head h in
        let sound : List ℕ = passes.passed in
        let more : List ℕ = sound ++ all in
        let long : length sound ≡ stated_size head = passes.long ∙ size in
        let form : form_size (head ++ more) ≡ form_size head = number_prefix 8 4 head more (omega (arith, least)) in
        let file : (head ++ ahead) ++ (passes.read ++ until.bytes) ≡ head ++ more =
        append_assoc head ahead (passes.read ++ until.bytes)
        ∙ ap (λ (xs : List ℕ). head ++ xs) (sym (append_assoc ahead passes.read until.bytes) ∙ ap (λ (xs : List ℕ). xs ++ until.bytes) passes.parts ∙ append_assoc sound back until.bytes ∙ ap (λ (xs : List ℕ). sound ++ xs) (sym until.appended)) in
        read_named left first i k (head ++ ahead) (passes.read ++ until.bytes) (head ++ more) e reads (reads_on left i j k passes.read until.bytes passes.reads until.reads) file
        (form_sure (left (inlet_reader k)) (head ++ more) e (omega (arith, least, length-append head more)) (take-append-le 4 head more (omega (arith, least)) ∙ h.form) (fails sound long) (elim until.enough [
          | inl enough ↦ inl (omega (arith, enough, rest, form, long, length-append head more, length-append sound all))
          | inr end ↦ inr end
        ]))

-- a fault of what is around a sound
pub around_named : (head back : List ℕ) (d : DsdiffFault) → EndsAtHead head → d ≢ faults.Memory → ((sound : List ℕ) → length sound ≡ stated_size head → Fails d (description_of (head ++ (sound ++ back)))) → (sound : List ℕ) → length sound ≡ stated_size head
    → opened_of (head ++ (sound ++ back)) ≡ Err (dsdiff_fault d)
around_named head back d h some fails sound long =
    let least : 28 ≤ length head = form_walk.long head h in
    let file : List ℕ = head ++ (sound ++ back) in
    form_starts file d (omega (arith, least, length-append head (sound ++ back))) (take-append-le 4 head (sound ++ back) (omega (arith, least)) ∙ h.form) (fails_is d (recording_of file) some (fails_of file d (fails sound long)))

-- ---- a fault that was named, or that of reading on
pub stated_unread : (Q : ReadFault → Type 0) (r : Result ReadFault StreamFault) → IfOk r Q → IfRefusedAs (unread_of r) Q
stated_unread Q (Ok e) h = h
stated_unread Q (Err f) h = tt

pub how_unread : (cause : Cause) (r : Result ReadFault StreamFault) → HasPrefix cause → IfErr r IsReadingFault → IsRefusedBy cause (unread_of r)
how_unread cause (Ok e) prefix h = tt
how_unread cause (Err f) prefix h = inl (h, prefix)

pub counts_unread : {R : Type 0} (a b : SoundReader R) (r : Result ReadFault StreamFault) → Counts a b r → CountsFault a b (plain (unread_of r))
counts_unread a b (Ok e) p = counts_refused {Y = Unit {0}} a a b e refl refl p
counts_unread a b (Err f) p = same_counts {Y = Unit {0}} a b f p

-- ---- what was counted
-- since the bytes that were read were parted
pub counts_from : {R X : Type 0} (a m b : SoundReader R) (r : Result X StreamFault) → IsSame a m → m.inlet.now ≡ a.inlet.now → Counts m b r → Counts a b r
counts_from a m b r same still p = record {
  failures = p.failures ∙ ap (λ (i : Inlet _). inlet_failures i + failed_reads r) still;
  turns = λ turn. p.turns turn ∙ same.limit;
  most = subst (λ (n : ℕ). inlet_reads b.inlet.now ≤ n) same.limit p.most;
}

-- and then nothing more, but memory may have run out
pub counts_then : {R X Y : Type 0} (a b : SoundReader R) (x : X) (r : Result Y StreamFault) → IfErr r (λ f. f ≡ StreamFaults.Memory) → Counts a b (Ok x) → Counts a b r
counts_then a b x (Ok y) h p = counts_ok a a b x y refl refl p
counts_then {Y = Y} a b x (Err f) h p = subst (λ (g : StreamFault). Counts {X = Y} a b (Err g)) (sym h) (counts_want {Y = Y} a a b x refl refl p)

pub counts_none : {R X : Type 0} (a b : SoundReader R) → IsReading a → b.inlet.now ≡ a.inlet.now → Counts {X = X} a b (Err StreamFaults.Memory)
counts_none {R} {X} a b reading same = counts_memory {X = ℕ} {Y = X} a a b 0 same (counts_so_far a a 0 reading (same_self a) refl)
