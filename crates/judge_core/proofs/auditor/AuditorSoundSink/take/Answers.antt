use Rattle.std.proofs.Common.{◌∙◌, ap, arith, length, subst, sym}
use Rattle.std.proofs.lemmas.List.{with_items_is}
use Rattle.sound_core.specs.Keepers.{Keeps}
use Rattle.sound_core.specs.Stretches.{items_of}
use Rattle.sound_core.proofs.FaultLaws.{fault_is}
use Rattle.sound_core.proofs.KeeperLaws.{from_whole}
use Rattle.judge_core.proofs.AuditLaws.{are_parts, audits_more}
use Rattle.judge_core.proofs.auditor.AuditorSoundSink.take.Goals as goal

pub take-requires-clause-fed : goal.take-requires-clause-fed
take-requires-clause-fed c = (c.requires.fed.0.keeper, c.requires.fed.1, c.requires.fed.2, record { same = c.requires.fed.3.ranges; keeps = c.requires.fed.3.audits.keeps })

pub unlace-requires : goal.unlace-requires
unlace-requires c =
    let is = c.stretch.ensures in
    let k = c.args.self.now.keeper in
    record {
      size = rw (is.0, is.1) c.requires.size;
      from_whole = λ frames. rw is.1 (from_whole c.args.part k.ranges.now (items_of k.stretches.items) c.requires.fed.1 c.args.bytes.now c.requires.fed.3.audits.keeps c.requires.size frames);
    }

pub note_firsts-requires-clause-parts : goal.note_firsts-requires-clause-parts
note_firsts-requires-clause-parts c =
    let is = c.stretch.ensures in
    let k = c.args.self.now.keeper in
    rw (c.deref.ensures.value, c.in_ok-parts.ensures.bits, is.0, is.1)
    (are_parts c.args.self.now.cut.now c.args.part k.ranges.now (items_of k.stretches.items) c.args.self.now.firsts.items c.requires.fed.1 c.args.bytes.now c.requires.fed.3.audits c.requires.size (c.has_measure.ensures.yes c.if-has_measure.true))

pub note_firsts-requires-clause-number : goal.note_firsts-requires-clause-number
note_firsts-requires-clause-number c = ap length c.deref_mut.ensures.value ∙ c.requires.fed.3.audits.number

pub returns-in_ok-parts-clause-has : goal.returns-in_ok-parts-clause-has
returns-in_ok-parts-clause-has c = λ first before fed is.
    let of = c.stretch.ensures in
    let a = c.args.self.now in
    let n = c.take.new.self in
    let keeps = c.in_ok-take.ensures.has first.keeper before fed (record { same = is.ranges; keeps = is.audits.keeps }) in
    let more = rw (c.deref_mut.ensures.value, c.deref.ensures.value, c.in_ok-parts.ensures.bits, of.0, of.1) at c.note_firsts.ensures in
    let made = with_items_is a.firsts c.note_firsts.new.firsts (omega (arith, c.note_firsts.auto.firsts, c.deref_mut.ensures.len)) in
    record {
      same = is.same;
      ranges = keeps.same;
      audits = rw made (audits_more a.cut.now c.args.part n.ranges.now (items_of a.keeper.stretches.items) a.firsts.items before c.args.bytes.now
          (record { keeps = subst (λ rs. Keeps c.args.part.sound rs c.args.part.done (items_of a.keeper.stretches.items) before) (is.ranges ∙ sym keeps.same) is.audits.keeps; number = is.audits.number; states = is.audits.states }) c.requires.size (items_of n.stretches.items) keeps.keeps (c.has_measure.ensures.yes c.if-has_measure.true) c.note_firsts.new.firsts more);
    }

pub returns-else-has_measure-clause-has : goal.returns-else-has_measure-clause-has
returns-else-has_measure-clause-has c = λ first before fed is.
    let keeps = c.in_ok-take.ensures.has first.keeper before fed (record { same = is.ranges; keeps = is.audits.keeps }) in
    record {
      same = is.same;
      ranges = keeps.same;
      audits = record { keeps = keeps.keeps; number = is.audits.number; states = λ measure. absurd (c.has_measure.ensures.no c.if-has_measure.false measure) };
    }

pub returns-in_err-take-clause-refused : goal.returns-in_err-take-clause-refused
returns-in_err-take-clause-refused c =
    rw (fault_is c.from_residual.result _ c.from_residual.ensures.1) (λ first before fed is.
    c.in_err-take.ensures.refused first.keeper before fed (record { same = is.ranges; keeps = is.audits.keeps }))
