use Rattle.std.proofs.Common.{◌*◌, ◌-◌, ◌/◌, ◌^◌, ℕ, length-set, arith}
use Rattle.cert_core.proofs.Bytes.{fits_all, fits_more, high_shifted, high_small, highs_more}
use Rattle.cert_core.proofs.row_reader.take_narrow.Goals as goal

pub loop-place-preserved : goal.loop-place-preserved
loop-place-preserved c =
    let w = c.args.width in
    let i = c.loop-place.place in
    let n = c.number_at.result in
    let value = n / 2 ^ (64 - 8 * w) in
    let row = c.loop-place.row in (
      highs_more w i value c.args.bytes.now row c.loop-place.invariant.0 (high_shifted w (w * i) n c.args.bytes.now c.requires.few c.number_at.ensures) (omega arith),
      omega (arith, length-set {A = ℕ}),
      fits_more w i value row (high_small w n c.requires.few (omega arith)) (omega arith) c.loop-place.invariant.2,
    )

pub returns-clause-below : goal.returns-clause-below
returns-clause-below c = fits_all c.args.width c.loop-place.place c.loop-place.row (omega arith) c.loop-place.invariant.2
