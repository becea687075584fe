use Rattle.std.proofs.Common.{◌∙◌, ◌<◌, [], ap, arith, length, refl}
use Rattle.std.proofs.lemmas.List.{get_or_default}
use Rattle.dsd_bits.specs.Packing.{packed}
use Rattle.transfer_commands.proofs.DigestLaws.{all_updated, updated_next}
use Rattle.transfer_commands.proofs.digesting.update_all.Goals as goal

pub loop-c-init : goal.loop-c-init
loop-c-init c = record { number = refl; later = λ k h above. refl; updated = λ k h m below held. absurd (omega (arith, below)) }

pub loop-c-preserved : goal.loop-c-preserved
loop-c-preserved c =
    let now = c.loop-c.hashers in
    let channels = c.args.channels.now in
    let low : c.loop-c.c < length now = omega (arith, c.loop-c-test.true, c.loop-c.auto.hashers) in
    let bits = c.index-channels-c.is ∙ get_or_default channels c.loop-c.c c.index-channels-c.result [] (omega (arith, c.loop-c-test.true, c.requires)) in
    updated_next channels c.args.hashers.now now c.loop-c.c _ c.update.new.self c.as_bytes.result.now c.loop-c.invariant low (c.as_bytes.ensures.packed ∙ ap packed bits) c.update.ensures

pub loop-c-smaller : goal.loop-c-smaller
loop-c-smaller c = omega (arith, c.loop-c-test.true)

pub returns : goal.returns
returns c = all_updated c.args.channels.now c.args.hashers.now c.loop-c.hashers c.loop-c.c c.loop-c.invariant (omega (arith, c.loop-c-test.false))
