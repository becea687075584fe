use Rattle.std.proofs.Common.{subst}
use Rattle.dsdarc_c.specs.JoinedCalls.{RefusesNextAt}
use Rattle.dsdarc_c.specs.JoinedMoves.{Followed}
use Rattle.dsdarc_c.specs.Statuses.{StatusMeans}
use Rattle.dsdarc_c.proofs.JoinedStatusLaws.{next_outcome}
use Rattle.dsdarc_c.proofs.StatusLaws.{means_outcome}
use Rattle.dsdarc_c.proofs.joined_content.JoinedPlayer.next.Goals as goal

pub returns : goal.returns
returns c =
    let old = c.self.inside.joined in
    let new = c.next_file-followed.new.p in
    let e = c.next_file-followed.ensures in
    let outcome = next_outcome old new c.next_file-followed.result e.accepted e.place e.waits e.shape e.plays e.refused in
    let means = means_outcome (Followed old new) (RefusesNextAt old.stage old.bare) c.status_of_outcome.result c.next_file-followed.result c.status_of_outcome.ensures outcome in
    subst (λ p. StatusMeans (Followed p new) (RefusesNextAt p.stage p.bare) c.status_of_outcome.result) c.self.view_is means
