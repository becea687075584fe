use Rattle.std.proofs.Common.{ap, arith, length}
use Rattle.std.proofs.lemmas.List.{with_items_is}
use Rattle.transfer_commands.proofs.DigestLaws.{channels_long, digests_more, from_whole}
use Rattle.transfer_commands.proofs.digesting.DigesterSoundSink.take.Goals as goal

pub unlace-requires : goal.unlace-requires
unlace-requires c =
    let is = c.stretch.ensures in
    record {
      size = rw (is.0, is.1) c.requires.size;
      from_whole = λ frames. rw is.1 (from_whole c.args.part c.requires.fed.1 c.requires.fed.2 frames);
    }

pub update_all-requires : goal.update_all-requires
update_all-requires c = omega (arith, c.deref_mut.ensures.len, ap length c.deref.ensures.value, c.in_ok-channels.ensures.number, c.stretch.ensures.0, c.requires.fed.3.number, channels_long c.args.part c.requires.fed.1)

pub returns-clause-has : goal.returns-clause-has
returns-clause-has c = λ first before fed has.
    let is = c.stretch.ensures in
    let k = c.args.self.now in
    let updated = rw (c.deref_mut.ensures.value, c.deref.ensures.value, c.in_ok-channels.ensures.bits, is.0, is.1) at c.update_all.ensures in
    let made = with_items_is k.hashers c.update_all.new.hashers (omega (arith, c.update_all.auto.hashers, c.deref_mut.ensures.len)) in
    rw made (digests_more c.args.part k.hashers.items c.update_all.new.hashers before c.args.bytes.now fed c.requires.size has updated)
