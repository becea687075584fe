-- What is played from a reader by a project's decimator is what project and file play.
use Rattle.std.proofs.Common.{◌≡◌, ◌⊎◌, ◌-◌, ℕ, inl, inr, List, Option, None, Some, IfSome, IsErrAnd, IsErrOf, Result, Ok, Err, arith, refl, sym, ap, ◌∙◌, subst}
use Rattle.chunk_core.specs.Inlets.{inlet_reader}
use Rattle.chunk_core.specs.declared.inlet.Inlet.{Inlet}
use Rattle.dsd_bits.specs.declared.blocks.BitOrder.TheVariants.{LeastFirst, MostFirst}
use Rattle.dsd_bits.specs.declared.interleaving.Interleaving.TheVariants.{Blocks}
use Rattle.dsd_bits.specs.Contents.{Content}
use Rattle.fir_core.specs.Decimator.{Decimator}
use Rattle.sound_core.specs.Faults as reading
use Rattle.sound_core.specs.Faults.{failed_reads, failed_writes}
use Rattle.sound_core.specs.Files.{HoldsRecording}
use Rattle.sound_core.specs.Naming.{IfRefusedAs, IsExactUnless, NamesFault, plain}
use Rattle.player_core.specs.Pace as pace
use Rattle.sound_core.specs.Sinks.{sound_given}
use Rattle.player_core.specs.Pace.{WritesFrames}
use Rattle.player_core.specs.Playing as streams
use Rattle.player_core.specs.Playing.{IsLackedBySome, PlaysBy, PlaysFile, PlaysGiven, WholeIsAll, WritesPrefix}
use Rattle.player_core.specs.declared.range.WaveRange.{WaveRange}
use Rattle.wave_core.specs.Texts.{wave_text}
use Rattle.sound_core.specs.declared.fault.StreamFault.{StreamFault}
use Rattle.sound_core.specs.declared.fault.StreamFault.TheVariants as faults
use Rattle.sound_core.specs.declared.fault.Unread.{Unread}
use Rattle.sound_core.specs.declared.fault.Unread.TheVariants as answers
use Rattle.sound_core.proofs.NamingLaws.{file_named}
use Rattle.form_core.specs.declared.form.Form.{Form}
use Rattle.form_core.specs.declared.form.Form.TheVariants as forms
use Rattle.form_core.specs.Forms.{HoldsAs, form_in}
use Rattle.form_core.specs.Opening.{opened_of}
use Rattle.form_core.specs.declared.fault.ReadFault.{ReadFault}
use Rattle.form_core.specs.declared.fault.ReadFault.TheVariants as reads
use Rattle.form_core.proofs.OpeningLaws.{holds_dsf}
use Rattle.request_core.specs.declared.fault.Fault.{Fault}
use Rattle.request_core.specs.declared.fault.Fault.TheVariants as fault
use Rattle.request_core.specs.Faults.{IfNamed, OfStream, as_stream, fault_of_stream, fault_of_unread}
use Rattle.transfer_core.specs.Laws.{WholePlays}
use Rattle.request_core.specs.Projects.{IsOfDecimator, SaysDecimator, decimator_of_text}
use Rattle.request_core.proofs.ProjectLaws.{says_decimator}
use Rattle.transfer_core.specs.Streaming.{FailsBeforeWriting, KeepsUp, OnlyFromOutside, PlaysRange, StreamApplies}

-- what is returned for a fault
pub fault_is : {X E : Type 0} (r : Result X E) (f : E) → IsErrAnd r (λ g. g ≡ f) → r ≡ Err f
fault_is (Ok x) f h = absurd h
fault_is (Err g) f h = rw h

-- ---- the form of a file
pub form_held : (file : List ℕ) (r : Content) → HoldsRecording file r → (form : Form) × HoldsAs file form r
form_held file r (inl is) = (forms.Dsdiff, is)
form_held file r (inr held) = (form_in (Blocks held.0), holds_dsf file r held.0 held.1)

pub recording_held : (file : List ℕ) (form : Form) (r : Content) → HoldsAs file form r → HoldsRecording file r
recording_held file forms.Dsdiff r is = inl is
recording_held file forms.Dsf r is = inr (LeastFirst, is)
recording_held file forms.Dsf8 r is = inr (MostFirst, is)

-- ---- by a project's decimator
module _ (project : List ℕ) (range : WaveRange) (d : Decimator) (says : SaysDecimator project d) where
  plays : (file bytes : List ℕ) → PlaysBy d range file bytes → PlaysRange project range file bytes
  plays file bytes by =
      let held = form_held file by.recording by.file_holds in
      record {
        decimator = d;
        form = held.0;
        recording = by.recording;
        project_says = says;
        file_holds = held.1;
        rate_divided = by.rate_divided;
        inside = by.inside;
        text = by.text;
      }

  pub plays_file : (left a b : Option (List ℕ)) (n : ℕ) → PlaysFile left (PlaysBy d range) a b n → PlaysFile left (PlaysRange project range) a b n
  plays_file None a b n h = tt
  plays_file (Some file) a b n h = (h.0, plays file h.0 h.1, h.2, h.3)

  pub plays_given : {R : Type 0} (left : R → Option (List ℕ)) (old new : Inlet R) (a b : Option (List ℕ)) (n : ℕ) → PlaysGiven left old new (PlaysBy d range) a b n → PlaysGiven left old new (PlaysRange project range) a b n
  plays_given left old new a b n h = (h.0, h.1, h.2, plays h.0 h.1 h.3, h.4, h.5)

  -- a fault that is named is the first one of the reader's file
  first_of : {R : Type 0} (left : R → Option (List ℕ)) (i j : Inlet R) (u : Unread) → IfRefusedAs u (NamesFault left i j) → IfSome (left (inlet_reader i)) (λ file. IfRefusedAs u (λ e. opened_of file ≡ Err e))
  first_of left i j (answers.Refused e) named = file_named left i j e named
  first_of left i j (answers.Stream f) named = by (left (inlet_reader i))
    where
      by : (o : Option (List ℕ)) → IfSome o (λ file. Unit {0})
      by None = tt
      by (Some file) = tt

  pub stands : {R : Type 0} (left : R → Option (List ℕ)) (i j : Inlet R) (u : Unread) → IfSome (left (inlet_reader i)) (λ file. streams.Applies d range file (plain u)) → IfRefusedAs u (NamesFault left i j) → IsExactUnless (IsLackedBySome d range) u
      → StreamApplies (left (inlet_reader i)) project range (fault_of_unread u)
  stands left i j u applies named exact = inr (d, says, (u, refl, record { applies = applies; first = first_of left i j u named; exact = exact }))

-- ---- of the one decimator that a project says
module _ (project : List ℕ) (range : WaveRange) (d : Decimator) (is_said : decimator_of_text project ≡ Ok d) where
  played : (file bytes : List ℕ) → PlaysRange project range file bytes → PlaysBy d range file bytes
  played file bytes is =
      let said = says_decimator project is.decimator is.project_says in
      let same : is.decimator ≡ d = cc in
      subst (λ e. PlaysBy e range file bytes) same (record {
        recording = is.recording;
        file_holds = recording_held file is.form is.recording is.file_holds;
        rate_divided = is.rate_divided;
        inside = is.inside;
        text = is.text;
      })

  pub only_outside : (left : Option (List ℕ)) (u : Unread) → streams.OnlyFromOutsideBy left d range (plain u) → OnlyFromOutside left project range (fault_of_unread u)
  only_outside None u h = tt
  only_outside (Some file) (answers.Refused e) h = λ bytes is. absurd (h bytes (played file bytes is))
  only_outside (Some file) (answers.Stream f) h = λ bytes is. (f, refl, h bytes (played file bytes is))

  pub writes_prefix : (left a b : Option (List ℕ)) → WritesPrefix left (PlaysBy d range) a b → WritesPrefix left (PlaysRange project range) a b
  writes_prefix None a b h = tt
  writes_prefix (Some file) a b h = λ bytes is. h bytes (played file bytes is)

  -- the one that the file plays by
  same_decimator : (file bytes : List ℕ) (is : PlaysRange project range file bytes) → d ≡ is.decimator
  same_decimator file bytes is = let said = says_decimator project is.decimator is.project_says in cc

  pub keeps_up : (left a b : Option (List ℕ)) (n : ℕ) → pace.KeepsUpBy left d range n a b → KeepsUp left project range n a b
  keeps_up None a b n h = tt
  keeps_up (Some file) a b n h = λ bytes s is reported much. subst (λ e. WritesFrames e s range (sound_given s n - 131072) bytes a b) (same_decimator file bytes is) (h bytes s (played file bytes is) reported much)

-- ---- all frames of a file
pub whole_plays : WholeIsAll → WholePlays
whole_plays all project file bytes = (
  (λ is. record {
    decimator = is.decimator;
    form = is.form;
    recording = is.recording;
    project_says = is.project_says;
    file_holds = is.file_holds;
    rate_divided = is.rate_divided;
    text = ap wave_text (sym (all.samples is.recording is.decimator)) ∙ is.text;
  }),
  (λ is. record {
    decimator = is.decimator;
    form = is.form;
    recording = is.recording;
    project_says = is.project_says;
    file_holds = is.file_holds;
    rate_divided = is.rate_divided;
    inside = (omega arith, omega arith);
    text = ap wave_text (all.samples is.recording is.decimator) ∙ is.text;
  }),
)

-- an answer is no fault
pub answered : {X : Type 0} (x : X) (f : Fault) → IsErrOf {T = X} (Ok x) f → ⊥
answered x f is = cc

-- ---- a fault of a stream, or of a file that is played, under its name here
pub same_stream : {X : Type 0} (f : StreamFault) → as_stream {X = X} (Err (fault_of_stream f)) ≡ Err f
same_stream faults.Memory = refl
same_stream f = refl

one_fault : (f g : StreamFault) → fault_of_stream f ≡ fault_of_stream g → g ≡ f
one_fault f g is = let a = same_stream {X = ℕ} f in let b = same_stream {X = ℕ} g in cc

pub stream_turns : {X : Type 0} (f : StreamFault) → IsErrOf {T = X} (Err (fault_of_stream f)) (fault.Stream faults.TurnLimit) → IsErrOf {T = X} (Err f) faults.TurnLimit
stream_turns f is = sym (same_stream f) ∙ ap as_stream is

of_stream : (P : StreamFault → Type 0) (f : StreamFault) → OfStream P (fault_of_stream f) → P f
of_stream P f h = subst P (one_fault f h.0 h.1) h.2

before_writing : (f : StreamFault) → FailsBeforeWriting (fault_of_stream f) → reading.IsBeforeWriting f
before_writing faults.Memory h = of_stream reading.IsBeforeWriting faults.Memory h
before_writing f h = of_stream reading.IsBeforeWriting f h

not_stream : (e : ReadFault) (f : StreamFault) → fault.FileRefused e ≡ fault_of_stream f → ⊥
not_stream e faults.Memory is = cc
not_stream e f is = cc

-- a fault that is named is none of a stream
pub of_unread : (P : StreamFault → Type 0) → (P faults.Memory → ⊥) → (u : Unread) → OfStream P (fault_of_unread u) → P (plain u)
of_unread P none (answers.Refused reads.Memory) h = absurd (none (of_stream P faults.Memory h))
of_unread P none (answers.Refused e) h = absurd (not_stream e h.0 h.1)
of_unread P none (answers.Stream f) h = of_stream P f h

pub unread_before : (u : Unread) → FailsBeforeWriting (fault_of_unread u) → reading.IsBeforeWriting (plain u)
unread_before (answers.Refused reads.Memory) h = of_unread reading.IsBeforeWriting (λ none. none) (answers.Refused reads.Memory) h
unread_before (answers.Refused e) h = of_unread reading.IsBeforeWriting (λ none. none) (answers.Refused e) h
unread_before (answers.Stream f) h = before_writing f h

pub unread_turns : {X : Type 0} (u : Unread) → IsErrOf {T = X} (Err (fault_of_unread u)) (fault.Stream faults.TurnLimit) → plain u ≡ faults.TurnLimit
unread_turns (answers.Refused reads.Memory) is = absurd cc
unread_turns (answers.Refused e) is = absurd cc
unread_turns {X} (answers.Stream f) is = let turns = stream_turns {X = X} f is in let same : f ≡ faults.TurnLimit = cc in same

pub unread_reads : (X : Type 0) (u : Unread) → failed_reads (as_stream {X = X} (Err (fault_of_unread u))) ≡ failed_reads {X = X} (Err (plain u))
unread_reads X (answers.Refused reads.Memory) = refl
unread_reads X (answers.Refused e) = refl
unread_reads X (answers.Stream f) = ap (λ r. failed_reads {X = X} r) (same_stream f)

pub unread_writes : (X : Type 0) (u : Unread) → failed_writes (as_stream {X = X} (Err (fault_of_unread u))) ≡ failed_writes {X = X} (Err (plain u))
unread_writes X (answers.Refused reads.Memory) = refl
unread_writes X (answers.Refused e) = refl
unread_writes X (answers.Stream f) = ap (λ r. failed_writes {X = X} r) (same_stream f)

pub unread_named : (P : ReadFault → Type 0) (u : Unread) → IfRefusedAs u P → IfNamed (fault_of_unread u) P
unread_named P (answers.Refused reads.Memory) named = tt
unread_named P (answers.Refused e) named = named
unread_named P (answers.Stream faults.Memory) named = tt
unread_named P (answers.Stream f) named = tt

-- ---- a project that is refused
pub project_outside : (left : Option (List ℕ)) (project : List ℕ) (range : WaveRange) (e : Fault) → (e ≡ fault.Memory) ⊎ (decimator_of_text project ≡ Err e) → OnlyFromOutside left project range e
project_outside None project range e h = tt
project_outside (Some file) project range e (inl is) = λ bytes plays. (faults.Memory, is, tt)
project_outside (Some file) project range e (inr is) = λ bytes plays. let says = says_decimator project plays.decimator plays.project_says in absurd cc

stops_elsewhere : (f : StreamFault) → reading.StopsReading f → IsOfDecimator (fault_of_stream f) → ⊥
stops_elsewhere faults.ReadFailed stop is = is
stops_elsewhere faults.TurnLimit stop is = is
stops_elsewhere f stop is = stop

-- it stops no reading, and counts no device's failure
pub project_keeps_up : (left a b : Option (List ℕ)) (project : List ℕ) (range : WaveRange) (n : ℕ) (e : Fault) → IsOfDecimator e → OfStream reading.StopsReading e → KeepsUp left project range n a b
project_keeps_up left a b project range n e is stop = absurd (stops_elsewhere stop.0 stop.2 (subst IsOfDecimator stop.1 is))

pub project_stream : {X : Type 0} (e : Fault) → IsOfDecimator e → as_stream {X = X} (Err e) ≡ Err faults.Memory
project_stream (fault.Project f) is = refl
project_stream fault.NoDecimation is = refl
project_stream fault.Memory is = refl
project_stream e is = absurd is

pub project_named : (P : ReadFault → Type 0) (e : Fault) → IsOfDecimator e → IfNamed e P
project_named P (fault.FileRefused f) is = absurd is
project_named P e is = tt

pub project_turns : {X : Type 0} (e : Fault) → IsOfDecimator e → IsErrOf {T = X} (Err e) (fault.Stream faults.TurnLimit) → ⊥
project_turns e of is = let same = sym (project_stream e of) ∙ ap as_stream is in absurd cc
