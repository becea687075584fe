use Rattle.std.proofs.Common.{subst}
use Rattle.dsdarc_c.specs.JoinedCalls.{RefusesEndAt}
use Rattle.dsdarc_c.specs.JoinedMoves.{JoinedEnded}
use Rattle.dsdarc_c.specs.Statuses.{StatusMeans}
use Rattle.dsdarc_c.proofs.JoinedStatusLaws.{joined_end_outcome}
use Rattle.dsdarc_c.proofs.StatusLaws.{means_outcome}
use Rattle.dsdarc_c.proofs.joined_content.JoinedPlayer.end.Goals as goal

pub returns : goal.returns
returns c =
    let old = c.self.inside.joined in
    let new = c.end_joined-ended.new.p in
    let e = c.end_joined-ended.ensures in
    let outcome = joined_end_outcome old new c.end_joined-ended.result e.accepted e.plays e.ends e.refused in
    let means = means_outcome (JoinedEnded old new) (RefusesEndAt old.stage old.bare) c.status_of_outcome.result c.end_joined-ended.result c.status_of_outcome.ensures outcome in
    subst (λ p. StatusMeans (JoinedEnded p new) (RefusesEndAt p.stage p.bare) c.status_of_outcome.result) c.self.view_is means
