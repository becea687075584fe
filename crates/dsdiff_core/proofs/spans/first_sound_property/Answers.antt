use Rattle.std.proofs.Common.{[], sym, refl, ◌∙◌}
use Rattle.std.specs.Prelude.{find}
use Rattle.std.proofs.lemmas.List.{at_drop_more}
use Rattle.dsdiff_core.specs.Spans.{holds_property}
use Rattle.dsdiff_core.specs.Held.{held}
use Rattle.dsdiff_core.proofs.spans.first_sound_property.Goals as goal

pub returns-then-is_sound_property-clause-value : goal.returns-then-is_sound_property-clause-value
returns-then-is_sound_property-clause-value c =
    let here = at_drop_more (find (holds_property (held c.args.file))) c.args.spans.now c.loop-span.span-index (record { id = []; start = 0; size = 0 }) c.loop-span-test.true in
    sym (sym c.loop-span.invariant ∙ here ∙ rw (sym c.if-is_sound_property.ensures.value) refl)
