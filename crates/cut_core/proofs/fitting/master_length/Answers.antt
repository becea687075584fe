use Rattle.std.proofs.Common.{◌≡◌, ◌+◌, arith, sum_by, take}
use Rattle.std.proofs.lemmas.List.Sums.{sum_by_more}
use Rattle.splice_core.specs.Splices.{splice_content}
use Rattle.cost_core.specs.Windows.{splice_cue}
use Rattle.cut_core.specs.Cuts.{span}
use Rattle.cut_core.proofs.fitting.master_length.Goals as goal

pub loop-i-preserved : goal.loop-i-preserved
loop-i-preserved c =
    let splice = splice_content c.args.splice.now in
    let i = c.loop-i.i in
    let more : sum_by span (take (i + 1) splice.cues) ≡ sum_by span (take i splice.cues) + span (splice_cue splice i) = sum_by_more span splice.cues i _ (omega (arith, c.loop-i-test.true, c.cue_number-i-end.ensures)) in
    record {
      sum = omega (arith, c.loop-i.invariant.sum, c.span_at-length.ensures.value, more);
      bound = omega (arith, c.loop-i.invariant.bound, c.span_at-length.ensures.bound);
    }
