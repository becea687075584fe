use Rattle.std.proofs.Common.{◌∙◌, ap, arith, inr, subst, sym}
use Rattle.std.specs.Prelude.{Err, Result, ⊤}
use Rattle.chunk_core.specs.Inlets.{inlet_failures, inlet_reader, inlet_reads}
use Rattle.dsd_bits.specs.declared.sound.Sound.{Sound}
use Rattle.sound_core.specs.Files.{IsHeaderFault}
use Rattle.sound_core.specs.Naming.{IfRefusedAs, NamesFault, plain}
use Rattle.sound_core.specs.Readers.{CountsFault}
use Rattle.sound_core.specs.declared.fault.StreamFault.{StreamFault}
use Rattle.sound_core.proofs.CauseLaws.{cause_on, header_exact, header_unread}
use Rattle.sound_core.proofs.ReaderLaws.{same_counts}
use Rattle.sound_core.proofs.prefix.read_prefix.Given.{Over}
use Rattle.sound_core.proofs.prefix.read_prefix.Goals as goal
use Rattle.sound_core.proofs.prefix.read_prefix.Goals.{After-unread}

pub unread-requires : goal.unread-requires
unread-requires g c = record {
  known = λ is. (c.new-reader.result.inlet.now, cause_on ⊥ ⊤ g.R.Read.remaining c.new-reader.result.inlet.now c.read_header.new.reader c.read_header.new.reader.cause (λ no. tt) (c.in-Err.ensures.named is));
  counted = omega (arith, c.in-Err.ensures.counts.most, c.read_header.ensures.same.limit);
}

-- what was counted, with the fault that is answered
counts_are : (g : Over) (c : After-unread g) → CountsFault c.new-reader.result c.unread.new.reader (plain c.unread.result)
counts_are g c = c.unread.ensures.counts c.new-reader.result c.read_header.ensures.same (same_counts {X = Sound} {Y = Unit {0}} c.new-reader.result c.read_header.new.reader c.in-Err.fault c.in-Err.ensures.counts)

pub returns-clause-named : goal.returns-clause-named
returns-clause-named g c =
    let is = sym (c.inlet-in-Err-1.given.1 (sym (c.unread.ensures.same.reference ∙ c.read_header.ensures.same.reference ∙ c.new-reader.ensures.reference))) in
    subst (λ j. IfRefusedAs c.unread.result (NamesFault g.R.Read.remaining c.args.inlet.now j)) is
    (subst (λ i. IfRefusedAs c.unread.result (NamesFault g.R.Read.remaining i c.unread.new.reader.inlet.now)) c.new-reader.ensures.inlet
    (c.unread.ensures.named c.new-reader.result.inlet.now (λ known. cause_on ⊥ ⊤ g.R.Read.remaining c.new-reader.result.inlet.now c.read_header.new.reader c.read_header.new.reader.cause (λ no. tt) (c.in-Err.ensures.named known))))

pub returns-clause-exact : goal.returns-clause-exact
returns-clause-exact g c =
    header_exact g.R.Read.remaining c.new-reader.result.inlet.now c.in-Err.fault c.read_header.new.reader c.unread.new.reader c.in-Err.ensures.fault c.in-Err.ensures.named c.unread.result c.unread.ensures.how

pub returns-clause-fault : goal.returns-clause-fault
returns-clause-fault g c =
    subst (λ i. IsHeaderFault (g.R.Read.remaining (inlet_reader i)) (plain c.unread.result)) c.new-reader.ensures.inlet
    (header_unread g.R.Read.remaining c.new-reader.result.inlet.now c.in-Err.fault c.read_header.new.reader c.unread.new.reader c.in-Err.ensures.fault c.in-Err.ensures.named c.unread.result c.unread.ensures.how)

pub returns-clause-read_failed : goal.returns-clause-read_failed
returns-clause-read_failed g c =
    let at = (goal.at.returns-clause-read_failed g c).After-unread in
    let is = sym (c.inlet-in-Err-1.given.1 (sym (c.unread.ensures.same.reference ∙ c.read_header.ensures.same.reference ∙ c.new-reader.ensures.reference))) in
    let counts = same_counts {X = Unit {0}} {Y = Sound} c.new-reader.result c.unread.new.reader (plain c.unread.result) (counts_are g at) in
    omega (arith, counts.failures, ap inlet_failures is, ap inlet_failures c.new-reader.ensures.inlet)

pub returns-clause-reads : goal.returns-clause-reads
returns-clause-reads g c =
    let at = (goal.at.returns-clause-reads g c).After-unread in
    let is = sym (c.inlet-in-Err-1.given.1 (sym (c.unread.ensures.same.reference ∙ c.read_header.ensures.same.reference ∙ c.new-reader.ensures.reference))) in
    omega (arith, (counts_are g at).most, ap inlet_reads is, c.new-reader.ensures.limit)

pub returns-clause-turn_limit : goal.returns-clause-turn_limit
returns-clause-turn_limit g c = λ turn.
    let at = (goal.at.returns-clause-turn_limit g c).After-unread in
    let is = sym (c.inlet-in-Err-1.given.1 (sym (c.unread.ensures.same.reference ∙ c.read_header.ensures.same.reference ∙ c.new-reader.ensures.reference))) in
    inr (sym (ap inlet_reads is) ∙ (counts_are g at).turns (ap (λ (f : StreamFault). let r : Result (Unit {0}) StreamFault = Err f in r) turn) ∙ c.new-reader.ensures.limit)
