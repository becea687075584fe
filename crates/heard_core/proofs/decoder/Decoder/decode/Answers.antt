use Rattle.std.proofs.Common.{◌≤◌, ◌∙◌, ap, arith, length, sum_by, unsigned_abs}
use Rattle.heard_core.proofs.DecodedLaws.{decoded_small, length-decoded_from}
use Rattle.heard_core.proofs.decoder.Decoder.decode.Goals as goal

pub returns-clause-bound : goal.returns-clause-bound
returns-clause-bound c = λ i h.
    let taps = c.as_slice.result.now in
    let number = length c.args.sound.now in
    let small : sum_by unsigned_abs taps ≤ 268435456 = rw c.as_slice.ensures.value c.self.invariant.fits.small_sum in
    let long = ap length c.decode_all.ensures ∙ length-decoded_from taps c.args.bits.now c.args.first number in
    rw c.decode_all.ensures (decoded_small taps c.args.bits.now c.args.first number 268435456 i small (omega (arith, h, long)))
