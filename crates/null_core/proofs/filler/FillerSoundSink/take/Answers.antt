use Rattle.std.proofs.Common.{arith}
use Rattle.std.proofs.lemmas.List.{with_items_is}
use Rattle.null_core.proofs.FillLaws.{filled_more, filled_number, filled_roomy, part_whole}
use Rattle.null_core.proofs.filler.FillerSoundSink.take.Goals as goal

pub unlace-requires : goal.unlace-requires
unlace-requires c =
    let is = c.stretch.ensures in
    record {
      size = rw (is.0, is.1) c.requires.size;
      from_whole = λ frames. rw is.1 (part_whole c.args.part c.requires.fed.1 c.args.bytes.now c.requires.fed.2 c.requires.size frames);
    }

pub push_all-requires-clause-room : goal.push_all-requires-clause-room
push_all-requires-clause-room c =
    let is = c.stretch.ensures in
    let f = c.args.self.now in
    rw (c.deref_mut.ensures.value, c.deref-then-has_measure.ensures.value, c.in_ok-bits.ensures.bits, is.0, is.1)
    (filled_roomy c.args.part c.requires.fed.1 c.args.bytes.now c.requires.fed.2 c.requires.size f.parts.items f.channels.items (c.requires.fed.3.filled (c.has_measure.ensures.yes c.if-has_measure.true)))

pub push_all-requires-clause-parts : goal.push_all-requires-clause-parts
push_all-requires-clause-parts c =
    let f = c.args.self.now in
    let filled = c.requires.fed.3.filled (c.has_measure.ensures.yes c.if-has_measure.true) in
    omega (arith, c.deref_mut.ensures.len, c.deref.ensures.len, filled.with_parts, filled_number c.args.part c.requires.fed.1 c.args.bytes.now c.requires.fed.2 c.requires.size f.parts.items f.channels.items filled)

pub returns-in_ok-push_all-clause-has : goal.returns-in_ok-push_all-clause-has
returns-in_ok-push_all-clause-has c = λ first before fed has.
    let is = c.stretch.ensures in
    let f = c.args.self.now in
    let longer = rw (c.deref_mut.ensures.value, c.deref-then-has_measure.ensures.value, c.in_ok-bits.ensures.bits, is.0, is.1) at c.in_ok-push_all.ensures in
    let made = with_items_is f.channels c.push_all.new.channels (omega (arith, c.push_all.auto.channels, c.deref_mut.ensures.len)) in
    record { same = has.same; filled = λ measure. rw made (filled_more c.args.part before c.args.bytes.now fed c.requires.size f.parts.items f.channels.items (has.filled measure) c.push_all.new.channels longer) }

pub returns-else-has_measure-clause-has : goal.returns-else-has_measure-clause-has
returns-else-has_measure-clause-has c = λ first before fed has. record { same = has.same; filled = λ measure. absurd (c.has_measure.ensures.no c.if-has_measure.false measure) }
