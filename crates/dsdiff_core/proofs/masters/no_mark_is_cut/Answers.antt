use Rattle.std.proofs.Common.{◌∙◌, sym}
use Rattle.dsdiff_core.proofs.OnceLoop.{no_span}
use Rattle.dsdiff_core.proofs.RefuseLoop.{cut_here, cut_on}
use Rattle.dsdiff_core.specs.Held.{held}
use Rattle.dsdiff_core.proofs.masters.no_mark_is_cut.Goals as goal

pub returns-then-is_cut_mark : goal.returns-then-is_cut_mark
returns-then-is_cut_mark c =
    cut_here (held c.args.file) c.args.spans.now c.loop-span.span-index no_span c.loop-span-test.true (sym c.if-is_cut_mark.ensures) ∙ c.loop-span.invariant

pub loop-span-preserved : goal.loop-span-preserved
loop-span-preserved c =
    cut_on (held c.args.file) c.args.spans.now c.loop-span.span-index no_span c.loop-span-test.true (sym c.if-is_cut_mark.ensures) ∙ c.loop-span.invariant
