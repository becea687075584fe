use Rattle.std.proofs.Common.{sym, subst, ◌∙◌}
use Rattle.std.proofs.lemmas.Bool.Decides.{not_from_Decides}
use Rattle.null_core.specs.Alone.{AreHeard, IsPartHeard}
use Rattle.null_core.specs.declared.alone.Heard.TheVariants.{Single}
use Rattle.null_core.proofs.AloneLaws.{first_single, other_single, same_single, same_sources, still_mixed}
use Rattle.null_core.proofs.alone.with_single.Goals as goal

pub returns-in-Nothing : goal.returns-in-Nothing
returns-in-Nothing c = λ parts p m k are one. first_single parts p m k c.args.source (subst (λ h. AreHeard h parts m k) c.in-Nothing.is are) one

pub returns-then-eq : goal.returns-then-eq
returns-then-eq c = λ parts p m k are one.
    let other = c.in-Single.other in
    let same = (same_sources other c.args.source).0 (sym c.eq.ensures ∙ c.if-eq.true) in
    same_single parts p m k other (subst (λ h. AreHeard h parts m k) c.in-Single.is are) (subst (λ s. IsPartHeard (Single s) p m k) (sym same) one)

pub returns-else-eq : goal.returns-else-eq
returns-else-eq c = λ parts p m k are one.
    let other = c.in-Single.other in
    other_single parts p m k other c.args.source (not_from_Decides _ (same_sources other c.args.source) (sym c.eq.ensures ∙ c.if-eq.false)) (subst (λ h. AreHeard h parts m k) c.in-Single.is are) one

pub returns-in-Mixed : goal.returns-in-Mixed
returns-in-Mixed c = λ parts p m k are one. still_mixed parts p m k (subst (λ h. AreHeard h parts m k) c.in-Mixed.is are)
