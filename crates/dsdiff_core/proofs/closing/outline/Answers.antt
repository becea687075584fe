use Rattle.std.proofs.Common.{Some, ap, subst, sym}
use Rattle.std.specs.Result.{result_ok}
use Rattle.dsd_bits.specs.Contents.{Content}
use Rattle.dsdiff_core.specs.Outlines.{StatesOutline}
use Rattle.dsdiff_core.proofs.ClosingLaws.{long_zeros, outlines}
use Rattle.dsdiff_core.proofs.HeadLaws.{ends_at_head}
use Rattle.dsdiff_core.proofs.closing.outline.Goals as goal

pub describe-requires : goal.describe-requires
describe-requires c = (ends_at_head c.args.prefix.now c.requires.0 c.requires.1).0

pub returns-clause-stated : goal.returns-clause-stated
returns-clause-stated c = λ s e.
    let head = (ends_at_head c.args.prefix.now s e).0 in
    let is = c.in_ok-description.ensures _ (long_zeros _) in
    subst (λ (r : Content). StatesOutline c.args.prefix.now s c.args.back.now (Some r)) (sym c.in_ok-silent.ensures) (outlines c.args.prefix.now c.args.back.now s (Some c.in_ok-description.description) e (sym (ap result_ok is)))
