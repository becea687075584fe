use Rattle.std.proofs.Common.{subst}
use Rattle.null_core.specs.Alone.{IsPartHeard}
use Rattle.null_core.proofs.AloneLaws.{mixed_more, nothing_more}
use Rattle.null_core.proofs.alone.with.Goals as goal

pub returns-in-Nothing : goal.returns-in-Nothing
returns-in-Nothing c = λ parts p m k are one. nothing_more parts p m k c.args.heard are (subst (λ h. IsPartHeard h p m k) c.in-Nothing.is one)

pub returns-in-Mixed : goal.returns-in-Mixed
returns-in-Mixed c = λ parts p m k are one. mixed_more parts p m k (subst (λ h. IsPartHeard h p m k) c.in-Mixed.is one)
