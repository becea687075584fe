-- Chunks of a form that are passed, stage by stage.
use Rattle.std.proofs.Common.{◌≡◌, ℕ, ◌+◌, ◌-◌, ◌≤◌, ◌<◌, ◌^◌, inl, inr, min, Bool, true, false, List, [], ◌++◌, length, drop, Option, None, Result, Err, refl, sym, ap, subst, ◌∙◌, arith, append-nil, append_assoc, length-append, length-drop}
use Rattle.std.specs.Prelude.{◌⊎◌}
use Rattle.std.proofs.lemmas.Bool.{cases_lt}
use Rattle.std.proofs.lemmas.List.{drop-append-le, drop-drop, drop_at}
use Rattle.std.specs.Io.KnownBytes.{IsAtEnd}
use Rattle.chunk_core.specs.Inlets.{inlet_given, inlet_reader}
use Rattle.chunk_core.specs.declared.inlet.Inlet.{Inlet}
use Rattle.chunk_core.specs.declared.layout.Head.{Head}
use Rattle.dsdiff_core.specs.declared.faulty.FaultyStart.{FaultyStart}
use Rattle.dsdiff_core.specs.Faulty.{AreNext, EndsInNext, IsFaulty, IsNextHead, IsSeen, next_place}
use Rattle.dsdiff_core.specs.Fields.{form_end, form_size}
use Rattle.dsdiff_core.specs.Headers.{size_at}
use Rattle.dsdiff_core.specs.declared.fault.DsdiffFault.{DsdiffFault}
use Rattle.dsdiff_core.specs.Reading.{recording_of}
use Rattle.dsdiff_core.proofs.FaultyPlaces.{long_file}
use Rattle.dsdiff_core.proofs.HeadLaws.{form_ok}
use Rattle.dsdiff_core.proofs.LeadLaws.{number_prefix}
use Rattle.form_core.specs.Faults.{dsdiff_fault}
use Rattle.form_core.specs.Opening.{opened_of}
use Rattle.form_core.specs.declared.fault.ReadFault.{ReadFault}
use Rattle.form_core.specs.declared.opening.Opened.{Opened}
use Rattle.sound_core.specs.Causes.{IsUnsure}
use Rattle.sound_core.specs.Naming.{NamesFault}
use Rattle.sound_core.specs.declared.cause.Cause.TheVariants as causes
use Rattle.sound_core.proofs.NamingLaws.{form_starts, sure_all, sure_end}
use Rattle.sound_core.specs.Passing.{EndsFaulty, EndsOn, GoesOn, IsOn, WalksTo}
use Rattle.sound_core.specs.declared.passing.Passed.{Passed}
use Rattle.sound_core.specs.declared.passing.Passed.TheVariants as passed
use Rattle.sound_core.specs.Readers.{FallsShort, IsReading, Passes}
use Rattle.sound_core.specs.Reads.{Reads}
use Rattle.sound_core.specs.declared.reader.SoundReader.{SoundReader}
use Rattle.sound_core.proofs.ReadLaws.{reads_none, reads_on}

-- the first chunks of what was read are dropped
pub on_first : {R : Type 0} (left : R → Option (List ℕ)) (first : Inlet R) (old new : SoundReader R) (s : FaultyStart) → IsUnsure left first old (causes.Faulty s) → new.given ≡ old.given → new.inlet.now ≡ old.inlet.now → new.ahead.now.items ≡ drop (s.end + s.pad) old.ahead.now.items
    → IsOn new old.ahead.now.items s
on_first left first old new s known given still rest = record {
  given = ap inlet_given still ∙ known.given ∙ ap (λ (n : ℕ). n + length old.ahead.now.items) (sym given);
  inside = known.states.0;
  ahead = sym rest;
  faulty = known.states.1;
}

-- the fault of what was read
abbrev failing : DsdiffFault → Result Opened ReadFault
failing d = Err (dsdiff_fault d)

faulty_opened : (file : List ℕ) (s : FaultyStart) (d : DsdiffFault) → IsFaulty file s → recording_of file ≡ Err d → opened_of file ≡ failing d
faulty_opened file s d h fails = (let long = long_file file s h in form_starts file d (omega (arith, long)) (form_ok file h.form).0 fails)

pub ends_named : {R : Type 0} (left : R → Option (List ℕ)) (first : Inlet R) (old new : SoundReader R) (file : List ℕ) (s : FaultyStart) (next : Option Head) (total : ℕ) (d : DsdiffFault) → Reads left first old.inlet.now file → (e : EndsOn left old new file s next) → total ≡ inlet_given new.inlet.now - new.given
    → ((f : List ℕ) → IsFaulty f s → IsSeen f total → EndsInNext f s → IsNextHead f s next → recording_of f ≡ Err d) → NamesFault left first new.inlet.now (dsdiff_fault d)
ends_named left first old new file s next total d reads e counted fails =
    let all : List ℕ = file ++ e.more in
    let long : length (file ++ e.more) ≡ total = omega (arith, counted, e.given) in
    record {
      read = file ++ e.more;
      reads = reads_on left first old.inlet.now new.inlet.now file e.more reads e.reads;
      sure = elim e.how [
        | inl end ↦ sure_end (left (inlet_reader new.inlet.now)) (file ++ e.more) (dsdiff_fault d) end.0 (faulty_opened (file ++ e.more) s d end.1.0 (fails (file ++ e.more) end.1.0 (inl long) end.1.1 end.1.2))
        | inr form ↦ sure_all (left (inlet_reader new.inlet.now)) (file ++ e.more) (dsdiff_fault d) (λ rest.
            let h = form.1 rest in
            let size : form_size ((file ++ e.more) ++ rest) ≡ form_size (file ++ e.more) = number_prefix 8 4 (file ++ e.more) rest (omega (arith, form.0)) in
            faulty_opened ((file ++ e.more) ++ rest) s d h.0 (fails ((file ++ e.more) ++ rest) h.0 (inr (omega (arith, form.0, long, size), omega (arith, long, length-append (file ++ e.more) rest))) h.1 h.2))
      ];
    }

-- more of the file is buffered
pub on_later : {R : Type 0} (left : R → Option (List ℕ)) (old new : SoundReader R) (file bytes : List ℕ) (s : FaultyStart) → IsOn old file s → Reads left old.inlet.now new.inlet.now bytes → new.given ≡ old.given → new.ahead.now.items ≡ old.ahead.now.items ++ bytes
    → IsOn new (file ++ bytes) s
on_later left old new file bytes s on reads same appended = record {
  given = omega (arith, on.given, reads.given, same, length-append file bytes);
  inside = omega (arith, on.inside, length-append file bytes);
  ahead = drop-append-le (next_place s) file bytes on.inside ∙ ap (λ (xs : List ℕ). xs ++ bytes) on.ahead ∙ sym appended;
  faulty = λ rest. subst (λ (f : List ℕ). IsFaulty f s) (sym (append_assoc file bytes rest)) (on.faulty (bytes ++ rest));
}

-- what follows is what follows a part of it
pub walks_after : {R : Type 0} (left : R → Option (List ℕ)) (old mid new : SoundReader R) (file bytes : List ℕ) (w : Passed) → Reads left old.inlet.now mid.inlet.now bytes → WalksTo left mid new (file ++ bytes) w → WalksTo left old new file w
walks_after left old mid new file bytes (passed.More s) reads h = record {
  more = bytes ++ h.more;
  reads = reads_on left old.inlet.now mid.inlet.now new.inlet.now bytes h.more reads h.reads;
  on = subst (λ (f : List ℕ). IsOn new f s) (append_assoc file bytes h.more) h.on;
}
walks_after left old mid new file bytes (passed.All s next) reads h = record {
  more = bytes ++ h.more;
  reads = reads_on left old.inlet.now mid.inlet.now new.inlet.now bytes h.more reads h.reads;
  given = subst (λ (f : List ℕ). inlet_given new.inlet.now ≡ new.given + length f) (append_assoc file bytes h.more) h.given;
  how = subst (λ (f : List ℕ). (IsAtEnd (left (inlet_reader new.inlet.now)) × EndsFaulty f s next) ⊎ ((12 + form_size f ≤ length f) × ((rest : List ℕ) → EndsFaulty (f ++ rest) s next))) (append_assoc file bytes h.more) h.how;
}

-- the first chunks end in what was read
pub on_end : {R : Type 0} (r : SoundReader R) (file : List ℕ) (s : FaultyStart) → IsOn r file s → IsReading r → s.end < 2 ^ 64
on_end r file s on reading = omega (arith, on.inside, on.given, reading.budget.given)

pub on_now : {R : Type 0} (left : R → Option (List ℕ)) (r : SoundReader R) (file : List ℕ) (s : FaultyStart) → IsOn r file s → GoesOn left r r file s
on_now left r file s on = record {
  more = [];
  reads = reads_none left r.inlet.now;
  on = subst (λ (f : List ℕ). IsOn r f s) (sym (append-nil file)) on;
}

-- where few bytes are left, the form ends among them
pub short_stop : (file : List ℕ) (s : FaultyStart) (bytes : List ℕ) → AreNext file s bytes → length bytes < 16 → form_end file ≤ next_place s + length bytes
short_stop file s bytes next few = elim next.enough [
  | inl long ↦ absurd (omega (arith, long, few))
  | inr rest ↦ elim rest [
    | inl none ↦ omega (arith, ap length next.are, length-drop (next_place s) file, length-append bytes next.more, ap length none)
    | inr form ↦ omega (arith, form)
  ]
]

-- the form ends before a chunk does
pub ends_before : (stop long at n m : ℕ) → stop ≤ long → long < at + 12 + n → n ≡ m → stop < at + 12 + m
ends_before stop long at n m le few same = omega (arith, le, few, same)

module _ {R : Type 0} (left : R → Option (List ℕ)) (mid : SoundReader R) (file : List ℕ) (s : FaultyStart) (on : IsOn mid file s) where
  abbrev ahead : List ℕ
  ahead = mid.ahead.now.items

  -- how long the file is
  file_long : length file ≡ next_place s + length mid.ahead.now.items
  file_long = omega (arith, on.inside, ap length on.ahead, length-drop (next_place s) file)

  pub on_short : IsReading mid → length file < 2 ^ 64
  on_short reading = omega (arith, on.given, reading.budget.given)

  pub faulty_here : IsFaulty file s
  faulty_here = subst (λ (f : List ℕ). IsFaulty f s) (append-nil file) (on.faulty [])

  pub next_bytes : (tail : List ℕ) → (16 ≤ length mid.ahead.now.items) ⊎ (tail ≡ []) ⊎ (12 + form_size (file ++ tail) ≤ next_place s + length mid.ahead.now.items) → AreNext (file ++ tail) s mid.ahead.now.items
  next_bytes tail enough = record {
    more = tail;
    are = drop-append-le (next_place s) file tail on.inside ∙ ap (λ (xs : List ℕ). xs ++ tail) on.ahead;
    enough = enough;
  }

  pub next_here : AreNext file s mid.ahead.now.items
  next_here = subst (λ (f : List ℕ). AreNext f s mid.ahead.now.items) (append-nil file) (next_bytes [] (inr (inl refl)))

  pub next_enough : (tail : List ℕ) (n : ℕ) → n ≡ s.form - (s.end - 12) - s.pad → min n 16 ≤ length mid.ahead.now.items → AreNext (file ++ tail) s mid.ahead.now.items
  next_enough tail n is wanted =
      let h = on.faulty tail in
      next_bytes tail (elim (cases_lt n 16) [
        | inl few ↦ inr (inr (omega (arith, few, wanted, is, h.size, h.low)))
        | inr many ↦ inl (omega (arith, many, wanted))
      ])

  -- the form has no whole head of a chunk left
  pub no_head : (tail : List ℕ) (n : ℕ) → n ≡ s.form - (s.end - 12) - s.pad → n < 12 → EndsInNext (file ++ tail) s
  no_head tail n is few = λ fits. (let h = on.faulty tail in absurd (omega (arith, fits, few, is, h.size, h.low)))

  -- the file is at its end
  pub ends_here : (last : FaultyStart) (next : Option Head) → IsAtEnd (left (inlet_reader mid.inlet.now)) → EndsFaulty file last next → EndsOn left mid mid file last next
  ends_here last next end e = record {
    more = [];
    reads = reads_none left mid.inlet.now;
    given = on.given ∙ ap (λ (f : List ℕ). mid.given + length f) (sym (append-nil file));
    how = inl (end, subst (λ (f : List ℕ). EndsFaulty f last next) (sym (append-nil file)) e);
  }

  module _ (new : SoundReader R) (same : new.given ≡ mid.given) where
    -- the rest of the form was passed, or what is there of it
    pub form_passed : (next : Option Head) (whole : Bool) (n : ℕ) → n ≡ s.form - (s.end - 12) - s.pad → (whole ≡ true → Passes left mid.inlet.now new.inlet.now n mid.ahead.now.items new.ahead.now.items) → (whole ≡ false → FallsShort left mid.inlet.now new.inlet.now n mid.ahead.now.items)
        → ((tail : List ℕ) → EndsInNext (file ++ tail) s × IsNextHead (file ++ tail) s next) → EndsOn left mid new file s next
    form_passed next true n is all short ends =
        let p = all refl in
        let h = on.faulty p.read in
        record {
          more = p.read;
          reads = p.reads;
          given = omega (arith, on.given, p.reads.given, same, length-append file p.read);
          how = inr (
            omega (arith, h.size, h.low, is, file_long, length-append file p.read, ap length p.parts, length-append mid.ahead.now.items p.read, length-append p.passed new.ahead.now.items, p.long),
            λ rest. subst (λ (f : List ℕ). EndsFaulty f s next) (sym (append_assoc file p.read rest)) (on.faulty (p.read ++ rest), (ends (p.read ++ rest)).0, (ends (p.read ++ rest)).1),
          );
        }
    form_passed next false n is all short ends =
        let f = short refl in
        record {
          more = f.read;
          reads = f.reads;
          given = omega (arith, on.given, f.reads.given, same, length-append file f.read);
          how = inl (f.at_end, (on.faulty f.read, (ends f.read).0, (ends f.read).1));
        }

    -- the file ends in the data of the next chunk
    pub chunk_cut : (next : Option Head) (n : ℕ) (rest : List ℕ) → rest ≡ drop 12 mid.ahead.now.items → 12 ≤ length mid.ahead.now.items → ((tail : List ℕ) → (n ≡ size_at (file ++ tail) (next_place s)) × IsNextHead (file ++ tail) s next) → FallsShort left mid.inlet.now new.inlet.now n rest → EndsOn left mid new file s next
    chunk_cut next n rest is head told f =
        let long : length (file ++ f.read) < next_place s + 12 + n = omega (arith, f.few, head, file_long, length-append file f.read, length-append rest f.read, ap length is, length-drop 12 mid.ahead.now.items) in
        let stop : form_end (file ++ f.read) ≤ length (file ++ f.read) = omega arith in
        record {
          more = f.read;
          reads = f.reads;
          given = omega (arith, on.given, f.reads.given, same, length-append file f.read);
          how = inl (f.at_end, (on.faulty f.read, λ fits. ends_before (form_end (file ++ f.read)) (length (file ++ f.read)) (next_place s) n (size_at (file ++ f.read) (next_place s)) stop long (told f.read).0, (told f.read).1));
        }

  -- ---- the data of the next chunk were passed
  module _ (k : SoundReader R) (same : k.given ≡ mid.given) (n : ℕ) (rest : List ℕ) (is : rest ≡ drop 12 mid.ahead.now.items) (head : 12 ≤ length mid.ahead.now.items) (p : Passes left mid.inlet.now k.inlet.now n rest k.ahead.now.items) where
    pub data_long : length (file ++ p.read) ≡ next_place s + 12 + n + length k.ahead.now.items
    data_long = omega (arith, head, file_long, length-append file p.read, ap length p.parts, length-append rest p.read, length-append p.passed k.ahead.now.items, p.long, ap length is, length-drop 12 mid.ahead.now.items)

    pub data_given : inlet_given k.inlet.now ≡ k.given + length (file ++ p.read)
    data_given = omega (arith, on.given, p.reads.given, same, length-append file p.read)

    data_ahead : drop (next_place s + 12 + n) (file ++ p.read) ≡ k.ahead.now.items
    data_ahead =
        sym (drop-drop n (next_place s + 12) (file ++ p.read))
        ∙ ap (drop n) (sym (drop-drop 12 (next_place s) (file ++ p.read)) ∙ ap (drop 12) (drop-append-le (next_place s) file p.read on.inside ∙ ap (λ (xs : List ℕ). xs ++ p.read) on.ahead) ∙ drop-append-le 12 mid.ahead.now.items p.read head ∙ ap (λ (xs : List ℕ). xs ++ p.read) (sym is) ∙ p.parts)
        ∙ drop_at p.passed k.ahead.now.items n p.long

    -- what the first chunks tell with it
    pub after_all : (after : FaultyStart) → ((tail : List ℕ) → AreNext (file ++ tail) s mid.ahead.now.items) → ((f : List ℕ) → IsFaulty f s → AreNext f s mid.ahead.now.items → next_place s + 12 + n ≤ length f → next_place s + 12 + n < 2 ^ 64 → IsFaulty f after × (after.end ≡ next_place s + 12 + n))
        → IsReading k → (tail : List ℕ) → IsFaulty ((file ++ p.read) ++ tail) after × (after.end ≡ next_place s + 12 + n)
    after_all after next told reading tail =
        let whole : (file ++ p.read) ++ tail ≡ file ++ (p.read ++ tail) = append_assoc file p.read tail in
        subst (λ (f : List ℕ). IsFaulty f after × (after.end ≡ next_place s + 12 + n)) (sym whole) (told (file ++ (p.read ++ tail)) (on.faulty (p.read ++ tail)) (next (p.read ++ tail)) (omega (arith, data_long, ap length whole, length-append (file ++ p.read) tail)) (omega (arith, data_long, data_given, reading.budget.given)))

    module _ (after : FaultyStart) (end : after.end ≡ next_place s + 12 + n) (faulty : (tail : List ℕ) → IsFaulty ((file ++ p.read) ++ tail) after) (new : SoundReader R) (same_new : new.given ≡ k.given) where
      -- and its pad
      pub pad_passed : (q : Passes left k.inlet.now new.inlet.now after.pad k.ahead.now.items new.ahead.now.items) → GoesOn left mid new file after
      pad_passed q =
          let all : List ℕ = p.read ++ q.read in
          let whole : (file ++ p.read) ++ q.read ≡ file ++ all = append_assoc file p.read q.read in
          let behind : drop after.end (file ++ p.read) ≡ k.ahead.now.items = ap (λ (m : ℕ). drop m (file ++ p.read)) end ∙ data_ahead in
          let inside : after.end ≤ length (file ++ p.read) = omega (arith, end, data_long) in
          let here : IsOn new ((file ++ p.read) ++ q.read) after = record {
            given = omega (arith, data_given, q.reads.given, same_new, length-append (file ++ p.read) q.read);
            inside = omega (arith, end, data_long, length-append (file ++ p.read) q.read, ap length q.parts, length-append k.ahead.now.items q.read, length-append q.passed new.ahead.now.items, q.long);
            ahead = sym (drop-drop after.pad after.end ((file ++ p.read) ++ q.read)) ∙ ap (drop after.pad) (drop-append-le after.end (file ++ p.read) q.read inside ∙ ap (λ (xs : List ℕ). xs ++ q.read) behind ∙ q.parts) ∙ drop_at q.passed new.ahead.now.items after.pad q.long;
            faulty = λ tail. subst (λ (f : List ℕ). IsFaulty f after) (sym (append_assoc (file ++ p.read) q.read tail)) (faulty (q.read ++ tail));
          } in
          record {
            more = all;
            reads = reads_on left mid.inlet.now k.inlet.now new.inlet.now p.read q.read p.reads q.reads;
            on = subst (λ (f : List ℕ). IsOn new f after) whole here;
          }

      -- the file ends before its pad
      pub pad_missing : FallsShort left k.inlet.now new.inlet.now after.pad k.ahead.now.items → EndsOn left mid new file after None
      pad_missing f =
          let all : List ℕ = p.read ++ f.read in
          let whole : (file ++ p.read) ++ f.read ≡ file ++ all = append_assoc file p.read f.read in
          let long : length ((file ++ p.read) ++ f.read) < next_place after = omega (arith, f.few, end, data_long, length-append (file ++ p.read) f.read, length-append k.ahead.now.items f.read) in
          let ends : EndsFaulty ((file ++ p.read) ++ f.read) after None = (faulty f.read, λ fits. absurd (omega (arith, fits, long)), omega (arith, long)) in
          record {
            more = all;
            reads = reads_on left mid.inlet.now k.inlet.now new.inlet.now p.read f.read p.reads f.reads;
            given = omega (arith, data_given, f.reads.given, same_new, length-append (file ++ p.read) f.read, ap length whole);
            how = inl (f.at_end, subst (λ (g : List ℕ). EndsFaulty g after None) whole ends);
          }
