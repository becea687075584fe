use Rattle.std.proofs.Common.{subst, sym}
use Rattle.transfer_commands.specs.Gaps.{AreNotNeeded}
use Rattle.transfer_commands.proofs.SkippedLaws.{around_unneeded}
use Rattle.transfer_commands.proofs.parts.source_of.Goals as goal

pub returns-clause-enough : goal.returns-clause-enough
returns-clause-enough g c =
    let found = c.args.found in
    let part = found.part in
    subst (λ range. AreNotNeeded part.project.now range found.opened.prefix.items c.gaps_around.result) (sym c.range.ensures)
    (around_unneeded c.args.head part.project.now found.opened.prefix.items found.opened.sound part.factor part.start part.stop c.gaps_around.result c.requires.states c.requires.factor c.gaps_around.ensures.in_sound (c.gaps_around.ensures.unread c.requires.states.is_sound))
