use Rattle.std.proofs.Common.{inl, inr, refl, subst}
use Rattle.dsdarc_c.specs.Reporting.{RefusesInfo, ReportsSound}
use Rattle.dsdarc_c.specs.declared.fault.PlayFault.TheVariants as faults
use Rattle.dsdarc_c.proofs.content.PushPlayer.info.Goals as goal

pub returns-in-Some : goal.returns-in-Some
returns-in-Some c = inl (c.done.ensures, subst (λ p. ReportsSound p c.in-Some.stated) c.self.view_is c.in-Some.ensures)

pub returns-in-None : goal.returns-in-None
returns-in-None c = inr (faults.NotYet, c.status_of.ensures, (subst (λ p. RefusesInfo p faults.NotYet) c.self.view_is c.in-None.ensures, refl))
