use Rattle.std.proofs.Common.{subst}
use Rattle.dsdarc_c.specs.JoinedCalls.{RefusesJoinedChoice}
use Rattle.dsdarc_c.specs.JoinedMoves.{IsJoinChosen}
use Rattle.dsdarc_c.specs.Statuses.{StatusMeans}
use Rattle.dsdarc_c.proofs.JoinedStatusLaws.{join_outcome}
use Rattle.dsdarc_c.proofs.StatusLaws.{means_outcome}
use Rattle.dsdarc_c.proofs.joined_content.JoinedPlayer.choose.Goals as goal

pub returns : goal.returns
returns c =
    let old = c.self.inside.joined in
    let new = c.choose_joined-chosen.new.p in
    let layout = c.args.layout in
    let e = c.choose_joined-chosen.ensures in
    let outcome = join_outcome old new layout c.choose_joined-chosen.result e.plays e.place e.refused in
    let means = means_outcome (IsJoinChosen old new layout) (RefusesJoinedChoice old layout) c.status_of_outcome.result c.choose_joined-chosen.result c.status_of_outcome.ensures outcome in
    subst (λ p. StatusMeans (IsJoinChosen p new layout) (RefusesJoinedChoice p layout) c.status_of_outcome.result) c.self.view_is means
