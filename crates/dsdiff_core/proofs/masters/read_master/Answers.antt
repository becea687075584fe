use Rattle.dsd_bits.proofs.ExitLaws.{no_value}
use Rattle.dsdiff_core.specs.Masters.{chunks_of_master}
use Rattle.dsdiff_core.proofs.ExitLaws.{fault_at}
use Rattle.dsdiff_core.proofs.JoinedSteps.{walk_fails}
use Rattle.dsdiff_core.proofs.Steps.{step_fails}
use Rattle.dsdiff_core.proofs.masters.read_master.Goals as goal

pub returns-in_err-inner-clause-exact : goal.returns-in_err-inner-clause-exact
unfolding chunks_of_master
returns-in_err-inner-clause-exact c =
    fault_at _ _ c.from_residual.result _ c.from_residual.ensures.1 (step_fails _ _ _ (walk_fails c.in_err-inner.field-0.0 _ c.in_err-inner.ensures.exact))

pub returns-in_err-inner-clause-inside : goal.returns-in_err-inner-clause-inside
returns-in_err-inner-clause-inside c = no_value _ _ c.from_residual.result c.from_residual.ensures.1

pub returns-in_err-inner-clause-whole : goal.returns-in_err-inner-clause-whole
returns-in_err-inner-clause-whole c = no_value _ _ c.from_residual.result c.from_residual.ensures.1

pub no_mark_is_cut-requires : goal.no_mark_is_cut-requires
no_mark_is_cut-requires c = rw c.deref.ensures.value c.in_ok-inner.ensures.inside

pub returns-clause-inside : goal.returns-clause-inside
returns-clause-inside c = c.in_ok-inner.ensures.inside
