use Rattle.std.proofs.Common.{subst}
use Rattle.std.proofs.lemmas.List.Elements.{All-more}
use Rattle.dsd_bits.specs.declared.marks.Mark.{Mark}
use Rattle.dsd_bits.specs.Contents.{mark_content}
use Rattle.dsdiff_core.specs.ReadAgain.{FitsMark}
use Rattle.dsdiff_core.proofs.WritingLemmas.{all_seen}
use Rattle.dsdiff_core.proofs.fields.marks_fit.Goals as goal

pub loop-mark-preserved : goal.loop-mark-preserved
loop-mark-preserved c =
    let Fits : Mark → Type 0 = λ mark. FitsMark (mark_content mark) in
    All-more Fits c.args.marks.now c.loop-mark.mark-index c.mark-item.result c.loop-mark-test.true c.loop-mark.invariant (subst Fits c.mark-item.is c.mark_fits.ensures)

pub returns : goal.returns
returns c = all_seen FitsMark mark_content c.args.marks.now c.loop-mark.mark-index c.loop-mark-test.false c.loop-mark.invariant
