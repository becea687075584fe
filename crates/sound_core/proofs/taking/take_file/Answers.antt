use Rattle.std.proofs.Common.{◌≡◌, ◌++◌, ◌+◌, ◌-◌, ◌<◌, ◌∙◌, ℕ, List, Err, ap, arith, inl, length, length-drop, length-take, refl, subst, sym}
use Rattle.form_core.specs.Opening.{opened_of}
use Rattle.sound_core.specs.declared.fault.StreamFault.TheVariants.{FileRefused}
use Rattle.chunk_core.specs.Inlets.{inlet_given}
use Rattle.std.proofs.lemmas.Result.{IfErr-weaker, IfOk-weaker}
use Rattle.chunk_core.specs.Inlets.{inlet_reader}
use Rattle.dsd_bits.specs.declared.sound.Sound.{Sound}
use Rattle.sound_core.specs.Outlines.{around_of}
use Rattle.sound_core.specs.Readers.{Passes}
use Rattle.sound_core.specs.Reads.{Reads}
use Rattle.sound_core.specs.Sinks.{RefusesFile}
use Rattle.sound_core.proofs.CauseLaws.{cause_on}
use Rattle.sound_core.proofs.AfterLaws.{at_sound, file_holds, given_holds, given_is, rest_holds, rest_named, rest_no_prefix, short_named, stops_after, stops_in_sound}
use Rattle.sound_core.proofs.TakingLaws.{fed_none, file_taken}
use Rattle.sound_core.proofs.FaultLaws.{fault_is, prefix_in_outline}
use Rattle.sound_core.proofs.taking.take_file.Given.{Over}
use Rattle.sound_core.proofs.taking.take_file.Goals as goal
use Rattle.sound_core.proofs.taking.take_file.Goals.{In_ok-head, In-Ok-true}

-- the prefix was read before its head was taken
reads_is : (g : Over) (c : In_ok-head g) → Reads g.R.Read.remaining c.args.reader.now.inlet.now c.take_head.new.self.inlet.now c.read_header.new.reader.ahead.now.items
reads_is g c = subst (λ k. Reads g.R.Read.remaining c.args.reader.now.inlet.now k c.read_header.new.reader.ahead.now.items) (sym c.take_head.ensures.untouched) c.in_ok-sound.ensures.read

-- what was taken was read
abbrev passes_is : (g : Over) (c : In-Ok-true g) → Passes g.R.Read.remaining c.take_head.new.self.inlet.now c.take_sound.new.reader.inlet.now c.in_ok-sound.sound.size c.take_head.new.self.ahead.now.items c.take_sound.new.reader.ahead.now.items
passes_is g c =
    let passes = (c.in-Ok-true.ensures.ok c.in-Ok-true.field-0-test).passes in
    record {
      passed = passes.passed;
      read = passes.read;
      reads = passes.reads;
      parts = passes.parts;
      long = passes.long ∙ sym c.in_ok-sound.ensures.states.is_sound.size;
    }

pub take_sound-requires-clause-fed : goal.take_sound-requires-clause-fed
take_sound-requires-clause-fed g c = fed_none c.in_ok-sound.sound c.in_ok-sound.ensures.states.is_sound c.in_ok-sound.ensures.states.whole

pub read_rest-requires-clause-at_sound : goal.read_rest-requires-clause-at_sound
read_rest-requires-clause-at_sound g c =
    let k = (goal.at.read_rest-requires-clause-at_sound g c).In_ok-head in
    at_sound g.R.Read.remaining _ _ _ _ _ c.in_ok-sound.sound (reads_is g k) c.in_ok-sound.ensures.states c.in_ok-head.ensures.head c.in_ok-head.ensures.rest

pub read_rest-requires-clause-given : goal.read_rest-requires-clause-given
read_rest-requires-clause-given g c =
    let k = (goal.at.read_rest-requires-clause-given g c).In_ok-head in
    let l = (goal.at.read_rest-requires-clause-given g c).In-Ok-true in
    omega (
      arith,
      c.take_sound.ensures.same.given,
      c.take_head.ensures.same.given,
      c.read_header.ensures.same.given,
      given_is g.R.Read.remaining _ _ _ _ _ c.in_ok-sound.sound (reads_is g k) c.in_ok-sound.ensures.states c.in_ok-head.ensures.head c.in_ok-head.ensures.rest _ _ (passes_is g l) c.args.reader.now.given c.requires.start.given,
    )

-- no byte of the sound came
pub returns-in_err-sound-clause-fault : goal.returns-in_err-sound-clause-fault
returns-in_err-sound-clause-fault g c =
    let f = c.in_err-sound.field-0.0 in
    rw (fault_is c.from_residual.result _ c.from_residual.ensures.1)
    (inl (record { same = refl; fault = prefix_in_outline (g.R.Read.remaining (inlet_reader c.args.reader.now.inlet.now)) f c.in_err-sound.ensures.fault; none = c.in_err-sound.ensures.stopped }))

pub returns-in_err-sound-clause-named : goal.returns-in_err-sound-clause-named
returns-in_err-sound-clause-named g c =
    rw (fault_is c.from_residual.result _ c.from_residual.ensures.1) (λ is. cause_on ⊥ (RefusesFile g.S.SoundSink.refused c.args.sink.now c.args.sink.now) g.R.Read.remaining c.args.reader.now.inlet.now c.read_header.new.reader c.read_header.new.reader.cause (λ none. absurd none) (c.in_err-sound.ensures.named is))

pub returns-in_err-sound-clause-prefix : goal.returns-in_err-sound-clause-prefix
returns-in_err-sound-clause-prefix g c = rw (fault_is c.from_residual.result _ c.from_residual.ensures.1) (λ is prefix. refl)

pub returns-in_err-head-clause-fault : goal.returns-in_err-head-clause-fault
returns-in_err-head-clause-fault g c =
    rw (fault_is c.from_residual-in_err-head.result _ c.from_residual-in_err-head.ensures.1, c.in_err-head.ensures.fault) (inl (record { same = refl; fault = tt; none = λ stop. absurd stop }))

-- some came
pub returns-in-Err-clause-fault : goal.returns-in-Err-clause-fault
returns-in-Err-clause-fault g c =
    let k = (goal.at.returns-in-Err-clause-fault g c).In_ok-head in
    (stops_in_sound g.R.Read.remaining _ _ _ _ _ c.in_ok-sound.sound (reads_is g k) c.in_ok-sound.ensures.states c.in_ok-head.ensures.head c.in_ok-head.ensures.rest
    g.S.SoundSink.has g.S.SoundSink.refused c.take_sound.new.reader.inlet.now c.args.sink.now c.take_sound.new.sink c.in-Err.fault c.in-Err.ensures.fault)

pub returns-in-Err-clause-named : goal.returns-in-Err-clause-named
returns-in-Err-clause-named g c = λ is. c.in-Err.ensures.own is

pub returns-in-Err-clause-prefix : goal.returns-in-Err-clause-prefix
returns-in-Err-clause-prefix g c = λ is prefix. absurd prefix

pub returns-in-Ok-false-clause-prefix : goal.returns-in-Ok-false-clause-prefix
returns-in-Ok-false-clause-prefix g c = λ is prefix. absurd prefix

-- the file ends before its sound does
pub cut_in-requires : goal.cut_in-requires
cut_in-requires g c =
    let k = (goal.at.cut_in-requires g c).In_ok-head in
    rw c.deref.ensures.value (at_sound g.R.Read.remaining _ _ _ _ _ c.in_ok-sound.sound (reads_is g k) c.in_ok-sound.ensures.states c.in_ok-head.ensures.head c.in_ok-head.ensures.rest)

pub returns-in-Ok-false-clause-fault : goal.returns-in-Ok-false-clause-fault
returns-in-Ok-false-clause-fault g c =
    let k = (goal.at.returns-in-Ok-false-clause-fault g c).In_ok-head in
    stops_in_sound g.R.Read.remaining _ _ _ _ _ c.in_ok-sound.sound (reads_is g k) c.in_ok-sound.ensures.states c.in_ok-head.ensures.head c.in_ok-head.ensures.rest
    g.S.SoundSink.has g.S.SoundSink.refused c.take_sound.new.reader.inlet.now c.args.sink.now c.take_sound.new.sink FileRefused (c.in-Ok-false.ensures.short c.in-Ok-false.field-0-test).stops

pub returns-in-Ok-false-clause-named : goal.returns-in-Ok-false-clause-named
returns-in-Ok-false-clause-named g c = λ is.
    let k = (goal.at.returns-in-Ok-false-clause-named g c).In_ok-head in
    let short = (c.in-Ok-false.ensures.short c.in-Ok-false.field-0-test).short in
    let size : c.given.result - c.take_sound.new.reader.given ≡ length c.in_ok-head.head.items + length c.take_head.new.self.ahead.now.items + length short.read =
    omega (
      arith,
      c.given.ensures,
      short.reads.given,
      c.take_sound.ensures.same.given,
      c.take_head.ensures.same.given,
      c.read_header.ensures.same.given,
      ap inlet_given c.take_head.ensures.untouched,
      c.in_ok-sound.ensures.given,
      c.in_ok-sound.ensures.states.within,
      ap length c.in_ok-head.ensures.head,
      ap length c.in_ok-head.ensures.rest,
      length-take c.in_ok-sound.sound.start c.read_header.new.reader.ahead.now.items,
      length-drop c.in_ok-sound.sound.start c.read_header.new.reader.ahead.now.items,
    ) in
    short_named g.R.Read.remaining _ _ _ _ _ c.in_ok-sound.sound (reads_is g k) c.in_ok-sound.ensures.states c.in_ok-head.ensures.head c.in_ok-head.ensures.rest
    c.take_sound.new.reader.inlet.now c.cut_in.result _ short size (subst (λ xs. (rest : List ℕ) → length (xs ++ rest) ≡ c.given.result - c.take_sound.new.reader.given → c.given.result - c.take_sound.new.reader.given < length xs + c.in_ok-sound.sound.size → opened_of (xs ++ rest) ≡ Err c.cut_in.result) c.deref.ensures.value c.cut_in.ensures)

pub returns-clause-named : goal.returns-clause-named
returns-clause-named g c =
    let at = goal.at.returns-clause-named g c in
    IfErr-weaker c.read_rest.result _ _ (λ f named.
    rest_named g.R.Read.remaining _ _ _ _ _ c.in_ok-sound.sound (reads_is g at.In_ok-head) c.in_ok-sound.ensures.states c.in_ok-head.ensures.head c.in_ok-head.ensures.rest _ _ (passes_is g at.In-Ok-true)
    (RefusesFile g.S.SoundSink.refused c.args.sink.now c.take_sound.new.sink) c.read_rest.new.reader f named) c.read_rest.ensures.named

pub returns-clause-prefix : goal.returns-clause-prefix
returns-clause-prefix g c =
    let at = goal.at.returns-clause-prefix g c in
    IfErr-weaker c.read_rest.result _ _ (λ f named. λ is prefix.
    absurd (rest_no_prefix g.R.Read.remaining _ _ _ _ _ c.in_ok-sound.sound (reads_is g at.In_ok-head) c.in_ok-sound.ensures.states c.in_ok-head.ensures.head c.in_ok-head.ensures.rest _ _ (passes_is g at.In-Ok-true)
    c.read_rest.new.reader f named is prefix)) c.read_rest.ensures.named

pub returns-clause-fault : goal.returns-clause-fault
returns-clause-fault g c =
    let at = goal.at.returns-clause-fault g c in
    let taken = (c.in-Ok-true.ensures.ok c.in-Ok-true.field-0-test) in
    IfErr-weaker c.read_rest.result _ _ (λ f stands.
    stops_after g.R.Read.remaining _ _ _ _ _ c.in_ok-sound.sound (reads_is g at.In_ok-head) c.in_ok-sound.ensures.states c.in_ok-head.ensures.head c.in_ok-head.ensures.rest _ _ (passes_is g at.In-Ok-true)
    g.S.SoundSink.has g.S.SoundSink.refused c.read_rest.new.reader.inlet.now c.args.sink.now c.take_sound.new.sink f taken.fed taken.taken
    (rest_holds g.R.Read.remaining _ _ _ _ _ c.in_ok-sound.sound (reads_is g at.In_ok-head) c.in_ok-sound.ensures.states c.in_ok-head.ensures.head c.in_ok-head.ensures.rest _ _ (passes_is g at.In-Ok-true) f stands)) c.read_rest.ensures.fault

-- all came
pub returns-clause-ok : goal.returns-clause-ok
returns-clause-ok g c =
    let at = goal.at.returns-clause-ok g c in
    let taken = (c.in-Ok-true.ensures.ok c.in-Ok-true.field-0-test) in
    let has = g.S.SoundSink.has c.args.sink.now c.take_sound.new.sink in
    IfOk-weaker c.read_rest.result _ _ (λ o stated.
    file_taken has (g.R.Read.remaining _) (around_of o) taken.passes.passed stated.2.stated
    (file_holds g.R.Read.remaining _ _ _ _ _ c.in_ok-sound.sound (reads_is g at.In_ok-head) c.in_ok-sound.ensures.states c.in_ok-head.ensures.head c.in_ok-head.ensures.rest _ _ (passes_is g at.In-Ok-true) _ (around_of o) stated.0 stated.1 stated.2)
    (subst (λ (s : Sound). has s s.count taken.passes.passed) (sym stated.0) taken.taken)) c.read_rest.ensures.ok

pub returns-clause-any_reader : goal.returns-clause-any_reader
returns-clause-any_reader g c =
    let at = goal.at.returns-clause-any_reader g c in
    let taken = (c.in-Ok-true.ensures.ok c.in-Ok-true.field-0-test) in
    let has = g.S.SoundSink.has c.args.sink.now c.take_sound.new.sink in
    IfOk-weaker c.read_rest.result _ _ (λ o stated.
    let stands = given_holds g.R.Read.remaining _ _ _ _ _ c.in_ok-sound.sound (reads_is g at.In_ok-head) c.in_ok-sound.ensures.states c.in_ok-head.ensures.head c.in_ok-head.ensures.rest _ _ (passes_is g at.In-Ok-true) _ (around_of o) stated.0 stated.1 stated.2 in (
      c.read_header.new.reader.ahead.now.items ++ (taken.passes.read ++ stated.2.read),
      stands.0,
      (taken.passes.passed, stands.1, subst (λ (s : Sound). has s s.count taken.passes.passed) (sym stated.0) taken.taken),
    )) c.read_rest.ensures.ok
