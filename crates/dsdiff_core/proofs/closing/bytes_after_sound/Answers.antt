use Rattle.std.proofs.Common.{ap, sym, ◌∙◌, arith}
use Rattle.dsdiff_core.specs.Headers.{left_after}
use Rattle.dsdiff_core.proofs.HeadLaws.{ends_at_head}
use Rattle.dsdiff_core.proofs.WalkLaws.{long}
use Rattle.dsdiff_core.proofs.closing.bytes_after_sound.Goals as goal

pub returns-clause-value : goal.returns-clause-value
returns-clause-value c = omega (arith, long c.args.prefix.now c.requires, c.size_at.ensures, c.size_at-2.ensures, c.requires.in_form)

pub returns-clause-stated : goal.returns-clause-stated
returns-clause-stated c = λ s e. returns-clause-value c ∙ ap (left_after c.args.prefix.now) (sym (ends_at_head c.args.prefix.now s e).1)
