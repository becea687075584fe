use Rattle.std.proofs.Common.{subst, sym}
use Rattle.dsf_core.specs.Headers.{IsLocated}
use Rattle.dsf_core.proofs.HeaderLaws.{is_located}
use Rattle.dsf_core.proofs.locating.locate.Goals as goal

pub returns-clause-stated : goal.returns-clause-stated
returns-clause-stated c = subst (IsLocated c.args.prefix.now) (sym c.answer.ensures) (is_located c.args.prefix.now)
