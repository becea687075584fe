use Rattle.std.proofs.Common.{Bool, List, arith}
use Rattle.std.specs.Prelude.{Vec}
use Rattle.std.specs.declared.alloc.Global.{Global}
use Rattle.std.proofs.lemmas.List.{length-map, with_items_is}
use Rattle.sound_core.specs.Stretches.{items_of}
use Rattle.sound_core.proofs.KeeperLaws.{from_whole, keeps_apart, keeps_grown, keeps_roomy}
use Rattle.sound_core.proofs.keeper.KeeperSoundSink.take.Goals as goal

pub unlace-requires : goal.unlace-requires
unlace-requires c =
    let is = c.stretch.ensures in
    let k = c.args.self.now in
    record {
      size = rw (is.0, is.1) c.requires.size;
      from_whole = λ frames. rw is.1 (from_whole c.args.part k.ranges.now (items_of k.stretches.items) c.requires.fed.1 c.args.bytes.now c.requires.fed.3.keeps c.requires.size frames);
    }

pub grow_all-requires-clause-room : goal.grow_all-requires-clause-room
grow_all-requires-clause-room c =
    let is = c.stretch.ensures in
    let k = c.args.self.now in
    rw (c.deref_mut.ensures.value, c.deref.ensures.value, c.in_ok-channels.ensures.bits, is.0, is.1)
    (keeps_roomy c.args.part k.ranges.now (items_of k.stretches.items) c.requires.fed.1 c.args.bytes.now c.requires.fed.3.keeps c.requires.size)

pub grow_all-requires-clause-number : goal.grow_all-requires-clause-number
grow_all-requires-clause-number c = omega (arith, c.deref_mut.ensures.len, c.requires.fed.3.keeps.kept.number, length-map c.args.self.now.stretches.items (λ (stretch : Vec (List Bool) Global). stretch.items))

pub returns-in_ok-grow_all-clause-has : goal.returns-in_ok-grow_all-clause-has
returns-in_ok-grow_all-clause-has c = λ first before fed has.
    let is = c.stretch.ensures in
    let k = c.args.self.now in
    let grown = rw (c.deref_mut.ensures.value, c.deref.ensures.value, c.in_ok-channels.ensures.bits, is.0, is.1) at c.in_ok-grow_all.ensures in
    let made = with_items_is k.stretches c.grow_all.new.stretches (omega (arith, c.grow_all.auto.stretches, c.deref_mut.ensures.len)) in
    record { same = has.same; keeps = rw made (keeps_grown c.args.part k.ranges.now (items_of k.stretches.items) before c.args.bytes.now has.keeps c.requires.size (items_of c.grow_all.new.stretches) grown) }

pub returns-else-not-are_apart-clause-has : goal.returns-else-not-are_apart-clause-has
returns-else-not-are_apart-clause-has c = λ first before fed has.
    let k = c.args.self.now in
    record { same = has.same; keeps = keeps_apart c.args.part k.ranges.now (items_of k.stretches.items) before c.args.bytes.now has.keeps c.requires.size (c.are_apart.ensures c.if-not-are_apart.false) }
