use Rattle.std.proofs.Common.{◌≡◌, ◌+◌, ◌∙◌, ap, arith, length, sym}
use Rattle.heard_core.specs.Pieces.{sums_at}
use Rattle.heard_core.proofs.DecodedLaws.{turn_is}
use Rattle.heard_core.proofs.PartLaws.{length-sums_at, small_sums}
use Rattle.heard_core.proofs.decoder.decode_turn.Goals as goal
use Rattle.heard_core.proofs.decoder.decode_turn.Goals.{After-sum_places}

long : (c : After-sum_places) → length c.sum_places.new.sums ≡ length c.split_at_mut-sums.result.0.now
long c = ap length c.sum_places.ensures ∙ length-sums_at c.args.source.taps.now c.args.source.bits.now (c.args.place + c.args.turn) (length c.split_at_mut-sums.result.0.now)

pub spread-requires-clause-long : goal.spread-requires-clause-long
spread-requires-clause-long c =
    omega (arith, long (goal.at.spread-requires-clause-long c).After-sum_places, c.split_at_mut-sums.ensures.front_len, c.div_ceil-number.ensures, c.saturating_sub.ensures)

pub spread-requires-clause-small : goal.spread-requires-clause-small
spread-requires-clause-small c = λ i h.
    rw c.sum_places.ensures
    (small_sums c.args.source.taps.now c.args.source.bits.now (c.args.place + c.args.turn) (length c.split_at_mut-sums.result.0.now) 268435456 i c.args.source.fits.small_sum (omega (arith, h, long (goal.at.spread-requires-clause-small c).After-sum_places)))

pub returns-clause-written : goal.returns-clause-written
returns-clause-written c =
    let taps = c.args.source.taps.now in
    let bits = c.args.source.bits.now in
    let at = c.args.place + c.args.turn in
    let many = long (goal.at.returns-clause-written c).After-sum_places in
    turn_is taps bits c.args.place c.args.turn (length c.args.sound.now) c.spread.new.sound c.sum_places.new.sums
    (omega (arith, many, c.split_at_mut-sums.ensures.front_len, c.div_ceil-number.ensures, c.saturating_sub.ensures))
    (c.sum_places.ensures ∙ ap (sums_at taps bits at) (sym many))
    c.spread.ensures.written

pub returns-clause-others : goal.returns-clause-others
returns-clause-others c = c.spread.ensures.others

pub returns-clause-len : goal.returns-clause-len
returns-clause-len c = c.spread.ensures.len
