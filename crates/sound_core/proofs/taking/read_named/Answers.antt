use Rattle.std.proofs.Common.{◌∙◌, ap, arith, inl, inr, refl, subst, sym}
use Rattle.std.specs.Prelude.{Err, Result, ⊤}
use Rattle.chunk_core.specs.Inlets.{inlet_failures, inlet_given, inlet_reader, inlet_reads}
use Rattle.sound_core.specs.Naming.{IfRefusedAs, NamesFault, plain}
use Rattle.sound_core.specs.Readers.{CountsFault}
use Rattle.sound_core.specs.Sinks.{RefusesFile, StopsTaking}
use Rattle.sound_core.specs.declared.fault.StreamFault.{StreamFault}
use Rattle.sound_core.specs.declared.outline.Outline.{Outline}
use Rattle.sound_core.proofs.CauseLaws.{cause_on, exact_unread, stops_unread}
use Rattle.sound_core.proofs.ReaderLaws.{same_counts}
use Rattle.sound_core.proofs.TakingLaws.{not_begun}
use Rattle.sound_core.proofs.taking.read_named.Given.{Over}
use Rattle.sound_core.proofs.taking.read_named.Goals as goal
use Rattle.sound_core.proofs.taking.read_named.Goals.{After-unread}

pub returns-then-not-can_count-clause-fault : goal.returns-then-not-can_count-clause-fault
returns-then-not-can_count-clause-fault g c = inl (not_begun (g.R.Read.remaining (inlet_reader c.args.inlet.now)) (inlet_given c.args.inlet.now) c.args.sink.now)

pub new-reader-requires : goal.new-reader-requires
new-reader-requires g c = record {
  counts = c.if-not-can_count.ensures.0 refl;
  size = c.in-Ok.ensures;
  empty = c.new-ahead.ensures.items;
}

pub take_file-requires : goal.take_file-requires
take_file-requires g c = record { start = c.new-reader.ensures.start; ready = c.requires.sink_ready }

pub unread-requires : goal.unread-requires
unread-requires g c = record {
  known = λ is. (c.new-reader.result.inlet.now, cause_on (RefusesFile g.S.SoundSink.refused c.args.sink.now c.take_file.new.sink) ⊤ g.R.Read.remaining c.new-reader.result.inlet.now c.take_file.new.reader c.take_file.new.reader.cause (λ _. tt) (c.in-Err.ensures.named is));
  counted = omega (arith, c.in-Err.ensures.counts.most, c.take_file.ensures.same.limit);
}

-- what was counted, with the fault that is answered
counts_are : (g : Over) (c : After-unread g) → CountsFault c.new-reader.result c.unread.new.reader (plain c.unread.result)
counts_are g c = c.unread.ensures.counts c.new-reader.result c.take_file.ensures.same (same_counts {X = Outline} {Y = Unit {0}} c.new-reader.result c.take_file.new.reader c.in-Err.fault c.in-Err.ensures.counts)

pub returns-clause-named : goal.returns-clause-named
returns-clause-named g c =
    let is = sym (c.inlet-in-Err-1.given.1 (sym (c.unread.ensures.same.reference ∙ c.take_file.ensures.same.reference ∙ c.new-reader.ensures.reference))) in
    let refuses = RefusesFile g.S.SoundSink.refused c.args.sink.now c.take_file.new.sink in
    subst (λ j. IfRefusedAs c.unread.result (NamesFault g.R.Read.remaining c.args.inlet.now j)) is
    (subst (λ i. IfRefusedAs c.unread.result (NamesFault g.R.Read.remaining i c.unread.new.reader.inlet.now)) c.new-reader.ensures.inlet
    (c.unread.ensures.named c.new-reader.result.inlet.now (λ known. cause_on refuses ⊤ g.R.Read.remaining c.new-reader.result.inlet.now c.take_file.new.reader c.take_file.new.reader.cause (λ _. tt) (c.in-Err.ensures.named known))))

pub returns-clause-exact : goal.returns-clause-exact
returns-clause-exact g c =
    exact_unread g.S.SoundSink.has g.S.SoundSink.refused (RefusesFile g.S.SoundSink.refused c.args.sink.now c.take_file.new.sink) g.R.Read.remaining c.new-reader.result.inlet.now c.args.sink.now c.take_file.new.sink c.in-Err.fault c.take_file.new.reader c.unread.new.reader c.in-Err.ensures.fault c.in-Err.ensures.named c.in-Err.ensures.prefix c.unread.result c.unread.ensures.how

pub returns-clause-fault : goal.returns-clause-fault
returns-clause-fault g c =
    let is = sym (c.inlet-in-Err-1.given.1 (sym (c.unread.ensures.same.reference ∙ c.take_file.ensures.same.reference ∙ c.new-reader.ensures.reference))) in
    let refuses = RefusesFile g.S.SoundSink.refused c.args.sink.now c.take_file.new.sink in
    subst (λ j. StopsTaking g.S.SoundSink.has g.S.SoundSink.refused (g.R.Read.remaining (inlet_reader c.args.inlet.now)) (inlet_given c.args.inlet.now) (inlet_given j) c.args.sink.now c.take_file.new.sink (plain c.unread.result)) is
    (subst (λ i. StopsTaking g.S.SoundSink.has g.S.SoundSink.refused (g.R.Read.remaining (inlet_reader i)) (inlet_given i) (inlet_given c.unread.new.reader.inlet.now) c.args.sink.now c.take_file.new.sink (plain c.unread.result)) c.new-reader.ensures.inlet
    (stops_unread g.S.SoundSink.has g.S.SoundSink.refused refuses g.R.Read.remaining c.new-reader.result.inlet.now c.args.sink.now c.take_file.new.sink c.in-Err.fault c.take_file.new.reader c.unread.new.reader c.in-Err.ensures.fault c.in-Err.ensures.named c.in-Err.ensures.prefix c.unread.result c.unread.ensures.how))

pub returns-clause-read_failed : goal.returns-clause-read_failed
returns-clause-read_failed g c =
    let at = (goal.at.returns-clause-read_failed g c).After-unread in
    let is = sym (c.inlet-in-Err-1.given.1 (sym (c.unread.ensures.same.reference ∙ c.take_file.ensures.same.reference ∙ c.new-reader.ensures.reference))) in
    let counts = same_counts {X = Unit {0}} {Y = Outline} c.new-reader.result c.unread.new.reader (plain c.unread.result) (counts_are g at) in
    omega (arith, counts.failures, ap inlet_failures is, ap inlet_failures c.new-reader.ensures.inlet)

pub returns-clause-reads : goal.returns-clause-reads
returns-clause-reads g c =
    let at = (goal.at.returns-clause-reads g c).After-unread in
    let is = sym (c.inlet-in-Err-1.given.1 (sym (c.unread.ensures.same.reference ∙ c.take_file.ensures.same.reference ∙ c.new-reader.ensures.reference))) in
    omega (arith, (counts_are g at).most, ap inlet_reads is, c.new-reader.ensures.limit)

pub returns-clause-turn_limit : goal.returns-clause-turn_limit
returns-clause-turn_limit g c = λ turn.
    let at = (goal.at.returns-clause-turn_limit g c).After-unread in
    let is = sym (c.inlet-in-Err-1.given.1 (sym (c.unread.ensures.same.reference ∙ c.take_file.ensures.same.reference ∙ c.new-reader.ensures.reference))) in
    inr (sym (ap inlet_reads is) ∙ (counts_are g at).turns (ap (λ (f : StreamFault). let r : Result (Unit {0}) StreamFault = Err f in r) turn) ∙ c.new-reader.ensures.limit)
