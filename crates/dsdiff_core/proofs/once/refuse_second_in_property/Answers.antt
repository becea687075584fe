use Rattle.std.proofs.Common.{arith, sym, ◌∙◌}
use Rattle.dsdiff_core.specs.Spans.{property_kinds}
use Rattle.dsdiff_core.proofs.OnceLoop.{no_span, once_goes_on, once_fails, once_end}
use Rattle.dsdiff_core.proofs.once.refuse_second_in_property.Goals as goal

pub returns-then-is_second_in_property : goal.returns-then-is_second_in_property
returns-then-is_second_in_property c = once_fails property_kinds c.args.parts.now c.loop-i.i no_span _ (omega arith) (sym c.is_second_in_property.ensures ∙ c.if-is_second_in_property.true) c.loop-i.invariant

pub loop-i-preserved : goal.loop-i-preserved
loop-i-preserved c = once_goes_on property_kinds c.args.parts.now c.loop-i.i no_span _ (omega arith) (sym c.is_second_in_property.ensures ∙ c.if-is_second_in_property.false) c.loop-i.invariant

pub returns : goal.returns
returns c = sym c.loop-i.invariant ∙ once_end property_kinds c.args.parts.now c.loop-i.i (omega arith)
