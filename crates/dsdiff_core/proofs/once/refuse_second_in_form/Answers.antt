use Rattle.std.proofs.Common.{arith, sym, ◌∙◌}
use Rattle.dsdiff_core.specs.Spans.{top_kinds}
use Rattle.dsdiff_core.proofs.OnceLoop.{no_span, once_goes_on, once_fails, once_end}
use Rattle.dsdiff_core.specs.Held.{held}
use Rattle.dsdiff_core.proofs.once.refuse_second_in_form.Goals as goal

pub returns-then-is_second_in_form : goal.returns-then-is_second_in_form
returns-then-is_second_in_form c = once_fails (top_kinds (held c.args.file)) c.args.top.now c.loop-i.i no_span _ (omega arith) (sym c.is_second_in_form.ensures ∙ c.if-is_second_in_form.true) c.loop-i.invariant

pub loop-i-preserved : goal.loop-i-preserved
loop-i-preserved c = once_goes_on (top_kinds (held c.args.file)) c.args.top.now c.loop-i.i no_span _ (omega arith) (sym c.is_second_in_form.ensures ∙ c.if-is_second_in_form.false) c.loop-i.invariant

pub returns : goal.returns
returns c = sym c.loop-i.invariant ∙ once_end (top_kinds (held c.args.file)) c.args.top.now c.loop-i.i (omega arith)
