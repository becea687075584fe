-- The null test of files: what their bytes say is one mix, one list of takes and one master.
use Rattle.std.proofs.Common.{◌≡◌, ◌∙◌, ◌↔◌, ℕ, ◌+◌, ◌<◌, List, [], ◌∷◌, ◌++◌, Result, Ok, Err, ap, arith, inl, inr, length, map, refl, subst, sym, Global, Vec}
use Rattle.std.specs.Prelude.{IfErr, IfOk}
use Rattle.std.specs.List.{AllZip}
use Rattle.std.proofs.lemmas.Bool.{cases_lt}
use Rattle.std.proofs.lemmas.List.{get_or_append_left, get_or_push, length-append, map-append}
use Rattle.std.proofs.lemmas.List.Elements.{All-append, All-cons, All-nil}
use Rattle.std.proofs.lemmas.List.FromFn.{map-range_with_len_more}
use Rattle.dsd_bits.proofs.LacingLemmas.{map_range_same}
use Rattle.dsd_bits.specs.Contents.{Content}
use Rattle.dsd_bits.specs.Shape.{HasShape}
use Rattle.form_core.specs.Forms.{HoldsSome}
use Rattle.form_core.specs.Opening.{opened_of}
use Rattle.form_core.specs.declared.fault.ReadFault.{ReadFault}
use Rattle.form_core.specs.declared.opening.Opened.{Opened}
use Rattle.form_core.proofs.OpeningLaws.{held_is_opened}
use Rattle.project_core.specs.declared.fault.ProjectFault.{ProjectFault}
use Rattle.project_core.specs.declared.fault.ProjectFault.TheVariants as texts
use Rattle.project_core.specs.Steps.{Fails}
use Rattle.clip_core.specs.Mixes.{MixContent}
use Rattle.mix_core.specs.Meaning.{IsMix}
use Rattle.mix_core.specs.ReadingMix.{mix_at}
use Rattle.mix_core.proofs.MixLaws.{one_mix, text_again}
use Rattle.cut_core.specs.Cuts.{each_below, take_at}
use Rattle.cut_core.specs.Excerpts.{ExcerptsContent, TakeShape, excerpts_content}
use Rattle.cut_core.specs.declared.excerpts.Excerpts.{Excerpts}
use Rattle.cut_core.proofs.ZipLaws.{zip_at, zip_from, zip_long}
use Rattle.null_core.specs.declared.fault.MixedFault.{MixedFault}
use Rattle.null_core.specs.declared.fault.MixedFault.TheVariants as mixeds
use Rattle.null_core.specs.declared.fault.NullFault.{NullFault}
use Rattle.null_core.specs.declared.fault.NullFault.TheVariants.{Mix, TakeNumber, TakeUnread, TakeMismatch, ClipOutside, ClipGains, Memory}
use Rattle.null_core.specs.declared.verdict.Heard.{Heard}
use Rattle.null_core.specs.declared.verdict.Verdict.{Verdict}
use Rattle.null_core.specs.declared.verdict.Verdict.TheVariants.{Accepted, MasterShape, MasterLength, TooLoud, Residual}
use Rattle.null_core.specs.Asking.{IsQuiet, NullsAll}
use Rattle.null_core.specs.Calling.{Accepts, AnswersAccepted, AreMixed, IfAccepted, IsAcceptedAt, IsFirstUnread, IsHeardIn, IsMisfitOf, IsMixedFrom, IsNullFault, IsTakeFault, NullTests, OnAccepted, ReadsTake, ReadsTakes, fault_of_mixed, fault_of_text, file_at}
use Rattle.null_core.specs.Candidates.{IsHeardOf}
use Rattle.null_core.specs.Files.{IsReadIn}
use Rattle.null_core.specs.Fitting.{IsFaultOf, ShapesFit, shapes_of}
use Rattle.null_core.specs.Holding.{AreExcerpts, excerpts_of}
use Rattle.null_core.specs.Reading.{AreOfTakes, IsFaultOfTakes, MixedContent, TakesFit, mixed_of}
use Rattle.null_core.specs.Verdicts.{IsGreatestOfAll, stretch_lists}
use Rattle.null_core.proofs.HeardLaws.{verdict_accepts}
use Rattle.null_core.proofs.ReadingLaws.{is_read}

-- ---- what files hold
apart : {X Y : Type 0} (x : X) (y : Y) (r : Result X Y) → r ≡ Ok x → r ≡ Err y → ⊥
apart x y (Ok z) a b = absurd cc
apart x y (Err z) a b = absurd cc

abbrev recording_in : Content → Result Opened ReadFault → Content
recording_in other (Ok x) = x.recording
recording_in other (Err fault) = other

-- a file holds one recording
pub one_recording : (file : List ℕ) (r s : Content) → HoldsSome file r → HoldsSome file s → r ≡ s
one_recording file r s a b = ap (recording_in r) (sym (held_is_opened file a.form r a.holds) ∙ held_is_opened file b.form s b.holds)

pub same_takes : (files : List (List ℕ)) (rs ss : List Content) → AllZip HoldsSome files rs → AllZip HoldsSome files ss → rs ≡ ss
same_takes [] [] [] a b = refl
same_takes [] [] (s ∷ ss) a b = absurd b
same_takes [] (r ∷ rs) ss a b = absurd a
same_takes (f ∷ fs) [] ss a b = absurd a
same_takes (f ∷ fs) (r ∷ rs) [] a b = absurd b
same_takes (f ∷ fs) (r ∷ rs) (s ∷ ss) a b = λ j. one_recording f r s a.0 b.0 j ∷ same_takes fs rs ss a.1 b.1 j

-- a file that holds a recording has no fault
pub not_unread : (file : List ℕ) (r : Content) (fault : ReadFault) → HoldsSome file r → opened_of file ≡ Err fault → ⊥
not_unread file r fault holds e = apart (record { form = holds.form; recording = r }) fault (opened_of file) (held_is_opened file holds.form r holds.holds) e

-- ---- takes one by one
pub no_excerpts : (mix : MixContent) → AreExcerpts mix [] []
no_excerpts mix = record { shaped = All-nil HasShape; excerpts = refl }

-- what was read of some takes, and of the next one
pub more_excerpts : (mix : MixContent) (takes : List Content) (hs made : List Excerpts) (r : Content) (h : Excerpts) (n : ℕ) → length takes ≡ n → AreExcerpts mix takes hs → HasShape r → excerpts_content h ≡ excerpts_of mix n r → made ≡ hs ++ h ∷ []
    → AreExcerpts mix (takes ++ r ∷ []) made
more_excerpts mix takes hs made r h n long before shape is pushed =
    let f : ℕ → ExcerptsContent = λ number. excerpts_of mix number (take_at takes number) in
    let g : ℕ → ExcerptsContent = λ number. excerpts_of mix number (take_at (takes ++ r ∷ []) number) in
    let more : length (takes ++ r ∷ []) ≡ length takes + 1 = length-append takes (r ∷ []) in
    let same = map_range_same (length takes) f g (λ i lt. ap (excerpts_of mix i) (sym (get_or_append_left takes (r ∷ []) _ i lt))) in
    let last : g (length takes) ≡ excerpts_content h = ap (excerpts_of mix (length takes)) (get_or_push takes r _ (length takes) refl) ∙ ap (λ (k : ℕ). excerpts_of mix k r) long ∙ sym is in
    record {
      shaped = All-append HasShape takes (r ∷ []) before.shaped (All-cons HasShape r [] shape (All-nil HasShape));
      excerpts = ap (map excerpts_content) pushed ∙ map-append excerpts_content hs (h ∷ []) ∙ (λ j. before.excerpts j ++ excerpts_content h ∷ [])
          ∙ (λ j. same j ++ sym last j ∷ []) ∙ sym (ap (λ (m : ℕ). each_below m g) more ∙ map-range_with_len_more g 0 (length takes) (length takes) (omega arith));
    }

-- the first files hold takes, and the next one does
pub more_held : (files : List (List ℕ)) (takes : List Content) (r : Content) (n : ℕ) → length takes ≡ n → ((i : ℕ) → i < n → HoldsSome (file_at files i) (take_at takes i)) → HoldsSome (file_at files n) r
    → (i : ℕ) → i < n + 1 → HoldsSome (file_at files i) (take_at (takes ++ r ∷ []) i)
more_held files takes r n long before holds i lt = elim (cases_lt i n) [
  | inl earlier ↦ subst (HoldsSome (file_at files i)) (sym (get_or_append_left takes (r ∷ []) _ i (omega (arith, long, earlier)))) (before i earlier)
  | inr later ↦
      let here : n ≡ i = omega (arith, later, lt) in
      let last : r ≡ take_at (takes ++ r ∷ []) i = sym (get_or_push takes r _ i (long ∙ here)) in
      subst (HoldsSome (file_at files i)) last (subst (λ k. HoldsSome (file_at files k) r) here holds)
]

pub all_held : (files : List (List ℕ)) (takes : List Content) → length takes ≡ length files → ((i : ℕ) → i < length files → HoldsSome (file_at files i) (take_at takes i)) → AllZip HoldsSome files takes
all_held files takes long held = zip_from HoldsSome files takes [] _ long held

-- the first take that isn't read
pub take_unread : (mix : MixContent) (files : List (List ℕ)) (takes : List Content) (n : ℕ) → n < length files → ((i : ℕ) → i < n → HoldsSome (file_at files i) (take_at takes i)) → (fault : NullFault) → ReadsTake mix n (file_at files n) (Err fault) → IsTakeFault files fault
take_unread mix files takes n lt held Memory is = tt
take_unread mix files takes n lt held (TakeUnread number fault) is =
    subst (λ k. IsFirstUnread files k fault) (sym is.0) (record { there = lt; before = λ earlier before. (take_at takes earlier, held earlier before); first = is.1 })
take_unread mix files takes n lt held (Mix fault) is = absurd is
take_unread mix files takes n lt held TakeNumber is = absurd is
take_unread mix files takes n lt held (TakeMismatch number) is = absurd is
take_unread mix files takes n lt held (ClipOutside i) is = absurd is
take_unread mix files takes n lt held (ClipGains i) is = absurd is

-- ---- faults
pub text_fault : (text : List ℕ) (files : List (List ℕ)) (fault : ProjectFault) → Fails fault (mix_at text) → IsNullFault text files (fault_of_text fault)
text_fault text files texts.NotToml is = is
text_fault text files (texts.UnknownKey table) is = is
text_fault text files (texts.MissingKey key table) is = is
text_fault text files (texts.WrongKind key table) is = is
text_fault text files (texts.OutOfLimit key table) is = is
text_fault text files (texts.NoTake number take takes) is = is
text_fault text files (texts.ShortCue cue start stop weights) is = is
text_fault text files (texts.LastBridge cue bridge) is = is
text_fault text files texts.Memory is = tt

module _ (text : List ℕ) (files : List (List ℕ)) (mix : MixContent) (says : IsMix text mix) (as_many : length files ≡ length mix.takes) where
  -- the first fault of files of takes
  pub take_fault : (fault : NullFault) → IsTakeFault files fault → IsNullFault text files fault
  take_fault Memory is = tt
  take_fault (TakeUnread number fault) is = record { mix = mix; says = says; as_many = as_many; unread = is }
  take_fault (Mix fault) is = absurd is
  take_fault TakeNumber is = absurd is
  take_fault (TakeMismatch number) is = absurd is
  take_fault (ClipOutside i) is = absurd is
  take_fault (ClipGains i) is = absurd is

  -- the first fault of takes that don't fit
  module _ (takes : List Content) (held : AllZip HoldsSome files takes) (hs : List Excerpts) (are : AreExcerpts mix takes hs) where
    misfit : (fault : MixedFault) → IsFaultOf mix (shapes_of takes) fault → IsMisfitOf text files fault
    misfit fault is = record { mix = mix; takes = takes; read = record { says = says; as_many = as_many; held = held }; fault_is = is }

    pub mixed_fault : (fault : MixedFault) → IsFaultOfTakes mix hs fault → IsNullFault text files (fault_of_mixed fault)
    mixed_fault mixeds.Memory is = tt
    mixed_fault (mixeds.TakeMismatch number) is = misfit (mixeds.TakeMismatch number) (is takes are)
    mixed_fault (mixeds.ClipOutside i) is = misfit (mixeds.ClipOutside i) (is takes are)
    mixed_fault (mixeds.ClipGains i) is = misfit (mixeds.ClipGains i) (is takes are)

-- ---- a mix with what it reads of the files of its takes
module _ (text : List ℕ) (files : List (List ℕ)) (mix : MixContent) (says : IsMix text mix) (as_many : length files ≡ length mix.takes) (hs : Vec Excerpts Global) (reads : ReadsTakes mix files hs) where
  pub of_takes : AreOfTakes mix hs.items
  of_takes = record { whole = reads.takes; excerpts = reads.excerpts; as_many = zip_long HoldsSome files reads.takes reads.held ∙ as_many }

  pub mixed_from : (mixed : MixedContent) → mixed ≡ mixed_of mix hs.items → TakesFit mix hs.items → IsMixedFrom text files mixed
  mixed_from mixed is fit = subst (IsMixedFrom text files) (sym is) (record {
    takes = reads.takes;
    from = record { read = record { says = says; as_many = as_many; held = reads.held }; fit = fit reads.takes reads.excerpts };
    read = is_read mix reads.takes hs.items reads.excerpts;
  })

-- what is heard of a master's file
pub tests_from : (text : List ℕ) (files : List (List ℕ)) (master : List ℕ) (mixed : MixedContent) → IsMixedFrom text files mixed → (heard : Result Heard ReadFault) → IsReadIn (IsHeardOf mixed) master heard → NullTests text files master heard
tests_from text files master mixed made (Ok heard) is = record { mix = mixed.mix; takes = made.takes; mixed = made.from; is_heard = (is.0, is.1, is.2 made.takes made.read) }
tests_from text files master mixed made (Err fault) is = record { mix = mixed.mix; takes = made.takes; mixed = made.from; is_heard = is }

-- takes that fit have no fault
no_fault : (mix : MixContent) (shapes : ℕ → TakeShape) (fault : MixedFault) → ShapesFit mix shapes → IsFaultOf mix shapes fault → ⊥
no_fault mix shapes (mixeds.TakeMismatch number) fit is = is.here.unlike (fit.alike number is.here.there)
no_fault mix shapes (mixeds.ClipOutside i) fit is = is.0.first.here.misfit (fit.each_fits i is.0.first.here.there)
no_fault mix shapes (mixeds.ClipGains i) fit is = is.0.first.here.misfit (fit.each_fits i is.0.first.here.there)
no_fault mix shapes mixeds.Memory fit is = is

module _ (text : List ℕ) (files : List (List ℕ)) (mix : MixContent) (takes : List Content) (mixed : AreMixed text files mix takes) where
  no_misfit : (fault : MixedFault) → IsMisfitOf text files fault → ⊥
  no_misfit fault is =
      let m = one_mix text is.mix mix is.read.says mixed.read.says in
      let t = same_takes files is.takes takes is.read.held mixed.read.held in
      no_fault mix (shapes_of takes) fault mixed.fit (subst (λ (x : MixContent). IsFaultOf x (shapes_of takes) fault) m (subst (λ (ts : List Content). IsFaultOf is.mix (shapes_of ts) fault) t is.fault_is))

  no_unread : (number : ℕ) (fault : ReadFault) → IsFirstUnread files number fault → ⊥
  no_unread number fault is = not_unread (file_at files number) (take_at takes number) fault (zip_at HoldsSome files takes number [] _ mixed.read.held is.there) is.first

  -- where takes fit a mix, memory is all that can run out
  pub only_memory : (fault : NullFault) → IsNullFault text files fault → fault ≡ Memory
  only_memory Memory is = refl
  only_memory (Mix fault) is = absurd (apart mix fault (mix_at text) (text_again text mix mixed.read.says) is)
  only_memory TakeNumber is = absurd (is.other (mixed.read.as_many ∙ ap (λ (x : MixContent). length x.takes) (one_mix text mix is.mix mixed.read.says is.says)))
  only_memory (TakeUnread number fault) is = absurd (no_unread number fault is.unread)
  only_memory (TakeMismatch number) is = absurd (no_misfit (mixeds.TakeMismatch number) is)
  only_memory (ClipOutside i) is = absurd (no_misfit (mixeds.ClipOutside i) is)
  only_memory (ClipGains i) is = absurd (no_misfit (mixeds.ClipGains i) is)

-- ---- which masters are accepted
-- what makes a master accepted
abbrev IsAccepting : ℕ → MixContent → List Content → Content → Type 0
IsAccepting residual mix takes r = IsQuiet mix takes r × NullsAll mix takes r mix.limit × IsGreatestOfAll mix takes r residual

module _ (text : List ℕ) (files : List (List ℕ)) (master : List ℕ) where
  -- of the mix, the takes and the recording that the bytes say
  accepting : (residual : ℕ) (mix : MixContent) (takes : List Content) (r : Content) → AreMixed text files mix takes → HoldsSome master r → Accepts text files master residual → IsAccepting residual mix takes r
  accepting residual mix takes r mixed holds is =
      let m = one_mix text is.mix mix is.mixed.read.says mixed.read.says in
      let t = same_takes files is.takes takes is.mixed.read.held mixed.read.held in
      let s = one_recording master is.recording r is.master_holds holds in
      subst (λ (x : MixContent). IsAccepting residual x takes r) m (subst (λ (ts : List Content). IsAccepting residual is.mix ts r) t (subst (IsAccepting residual is.mix is.takes) s (is.quiet, is.nulls, is.greatest)))

  module _ (mix : MixContent) (takes : List Content) (mixed : AreMixed text files mix takes) (residual : ℕ) where
    if_accepted : (heard : Result Heard ReadFault) → IsHeardIn mix takes master heard → IsAcceptedAt residual heard → Accepts text files master residual
    if_accepted (Ok heard) is accepted =
        let by = (verdict_accepts mix takes is.0 (stretch_lists heard) heard.verdict is.2 residual).0 accepted in
        record { mix = mix; takes = takes; mixed = mixed; recording = is.0; master_holds = is.1; quiet = by.0; nulls = by.1; greatest = by.2 }
    if_accepted (Err fault) is accepted = absurd accepted

    if_accepts : (heard : Result Heard ReadFault) → IsHeardIn mix takes master heard → Accepts text files master residual → IsAcceptedAt residual heard
    if_accepts (Ok heard) is accepts = (verdict_accepts mix takes is.0 (stretch_lists heard) heard.verdict is.2 residual).1 (accepting residual mix takes is.0 mixed is.1 accepts)
    if_accepts (Err fault) is accepts = not_unread master accepts.recording fault accepts.master_holds is

-- a master is accepted exactly if it nulls with the mix's limit and no place is too loud
pub tests_accept : (text : List ℕ) (files : List (List ℕ)) (master : List ℕ) (heard : Result Heard ReadFault) → NullTests text files master heard → (residual : ℕ) → IsAcceptedAt residual heard ↔ Accepts text files master residual
tests_accept text files master heard tests residual =
    (if_accepted text files master tests.mix tests.takes tests.mixed residual heard tests.is_heard, if_accepts text files master tests.mix tests.takes tests.mixed residual heard tests.is_heard)

-- ---- what a call returned
module _ (text : List ℕ) (files : List (List ℕ)) (master : List ℕ) where
  accepted_heard : (heard : Heard) → NullTests text files master (Ok heard) → (verdict : Verdict) → heard.verdict ≡ verdict → OnAccepted verdict (Accepts text files master)
  accepted_heard heard tests (Accepted residual) is = (tests_accept text files master (Ok heard) tests residual).0 is
  accepted_heard heard tests (MasterShape found wanted) is = tt
  accepted_heard heard tests (MasterLength found wanted) is = tt
  accepted_heard heard tests (TooLoud channel place) is = tt
  accepted_heard heard tests (Residual channel place) is = tt

  pub accepted_nulls : (result : Result (Result Heard ReadFault) NullFault) → IfOk result (NullTests text files master) → IfAccepted result (Accepts text files master)
  accepted_nulls (Ok (Ok heard)) found = accepted_heard heard found heard.verdict refl
  accepted_nulls (Ok (Err fault)) found = tt
  accepted_nulls (Err fault) found = tt

  pub answers_accepted : (result : Result (Result Heard ReadFault) NullFault) → IfOk result (NullTests text files master) → IfErr result (IsNullFault text files) → (residual : ℕ) → Accepts text files master residual → AnswersAccepted result residual
  answers_accepted (Ok heard) found refused residual accepts = (tests_accept text files master heard found residual).1 accepts
  answers_accepted (Err fault) found refused residual accepts = only_memory text files accepts.mix accepts.takes accepts.mixed fault refused
