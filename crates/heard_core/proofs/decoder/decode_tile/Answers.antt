use Rattle.std.proofs.Common.{◌%◌, ◌<◌, ◌∙◌, arith, inl, inr, length}
use Rattle.std.proofs.lemmas.Bool.{cases_lt}
use Rattle.heard_core.proofs.DecodedLaws.{decoded_by_all}
use Rattle.heard_core.proofs.decoder.decode_tile.Goals as goal

pub loop-turn-preserved : goal.loop-turn-preserved
loop-turn-preserved c = λ i h l.
    let inside : i < length c.loop-turn.sound = omega (arith, h, c.decode_turn.ensures.len) in
    elim (cases_lt (i % 8) c.loop-turn.turn) [
      | inl before ↦ c.decode_turn.ensures.others i inside before ∙ c.loop-turn.invariant i inside before
      | inr now ↦ c.decode_turn.ensures.written i inside (omega (arith, l, now))
    ]

pub returns : goal.returns
returns c =
    decoded_by_all c.args.source.taps.now c.args.source.bits.now c.args.first (length c.args.sound.now) c.loop-turn.sound c.loop-turn.auto.sound
    (λ i h. c.loop-turn.invariant i (omega (arith, h, c.loop-turn.auto.sound)) (omega (arith, c.loop-turn-test.false)))
