use Rattle.std.proofs.Common.{subst}
use Rattle.dsdarc_c.specs.BareCalls.{RefusesChoice}
use Rattle.dsdarc_c.specs.BareMoves.{IsChosenNow}
use Rattle.dsdarc_c.specs.Statuses.{StatusMeans}
use Rattle.dsdarc_c.proofs.BareStatusLaws.{choose_outcome}
use Rattle.dsdarc_c.proofs.StatusLaws.{means_outcome}
use Rattle.dsdarc_c.proofs.bare_content.BarePlayer.choose.Goals as goal

pub returns : goal.returns
returns c =
    let old = c.self.inside.bare in
    let new = c.choose-chosen.new.p in
    let layout = c.args.layout in
    let e = c.choose-chosen.ensures in
    let outcome = choose_outcome old new layout c.choose-chosen.result e.plays e.chosen e.goes_on e.refused in
    let means = means_outcome (IsChosenNow old new layout) (RefusesChoice old layout) c.status_of_outcome.result c.choose-chosen.result c.status_of_outcome.ensures outcome in
    subst (λ p. StatusMeans (IsChosenNow p new layout) (RefusesChoice p layout) c.status_of_outcome.result) c.self.view_is means
