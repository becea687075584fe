use Rattle.std.proofs.Common.{subst}
use Rattle.cut_core.specs.Keeping.{CanCut}
use Rattle.cut_core.proofs.KeepingLaws.{can}
use Rattle.cut_core.proofs.cut.Cut.can_cut.Goals as goal

pub returns : goal.returns
returns c = subst CanCut c.self.view_is (can c.self.inside c.self.invariant c.fades_join.ensures)
