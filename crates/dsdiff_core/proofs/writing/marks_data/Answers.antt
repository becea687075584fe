use Rattle.std.proofs.Common.{◌++◌, ap, ◌∙◌}
use Rattle.chunk_core.specs.Chunks.{spelled}
use Rattle.dsd_bits.specs.Ids.{MARK}
use Rattle.dsdiff_core.proofs.WritingLemmas.{marks_more}
use Rattle.dsdiff_core.proofs.writing.marks_data.Goals as goal

pub loop-mark-preserved : goal.loop-mark-preserved
loop-mark-preserved c =
    marks_more _ _ c.mark-item.result _ _ _ c.loop-mark-test.true c.mark-item.is c.loop-mark.invariant c.in_ok-content.ensures (c.in_ok-push_chunk.ensures.ok ∙ ap (λ x. c.loop-mark.out.items ++ spelled MARK x) c.deref.ensures.value)
