use Rattle.std.proofs.Common.{◌/◌, ap, arith}
use Rattle.dsd_bits.specs.Contents.{mark_content}
use Rattle.transfer_core.proofs.SpanLaws.{mark_there}
use Rattle.transfer_core.proofs.spans.frame_at.Goals as goal

pub returns-else-number-marks-clause-found : goal.returns-else-number-marks-clause-found
returns-else-number-marks-clause-found c =
    let m = c.index-marks-number.result in
    rw c.in-Mark.is (
      mark_content m,
      mark_there c.args.marks.now c.in-Mark.number m (omega (arith, c.if-number-marks.false)) c.index-marks-number.is,
      ap (λ n. n / c.args.frames.factor) c.bits_before-at.ensures,
    )
