use Rattle.std.proofs.Common.{◌∙◌, sym}
use Rattle.dsdiff_core.proofs.OnceLoop.{no_span}
use Rattle.dsdiff_core.proofs.RefuseLoop.{leads_here, leads_not, leads_on}
use Rattle.dsdiff_core.specs.Held.{held}
use Rattle.dsdiff_core.proofs.sound.leads.Goals as goal

pub returns-then-is_sound_property : goal.returns-then-is_sound_property
returns-then-is_sound_property c =
    leads_not (held c.args.file) c.args.top.now c.loop-span.span-index no_span c.loop-span-test.true (sym c.if-is_sound_property.ensures.value) ∙ c.loop-span.invariant

pub returns-then-eq : goal.returns-then-eq
returns-then-eq c =
    leads_here (held c.args.file) c.args.top.now c.loop-span.span-index no_span c.loop-span-test.true (sym c.if-is_sound_property.ensures.value) (sym c.if-eq.ensures) ∙ c.loop-span.invariant

pub loop-span-preserved : goal.loop-span-preserved
loop-span-preserved c =
    leads_on (held c.args.file) c.args.top.now c.loop-span.span-index no_span c.loop-span-test.true (sym c.if-is_sound_property.ensures.value) (sym c.if-eq.ensures) ∙ c.loop-span.invariant
