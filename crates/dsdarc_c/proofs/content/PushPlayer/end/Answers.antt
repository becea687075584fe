use Rattle.std.proofs.Common.{subst}
use Rattle.dsdarc_c.specs.Calls.{EndRefused, Ended}
use Rattle.dsdarc_c.specs.Statuses.{StatusMeans}
use Rattle.dsdarc_c.proofs.StatusLaws.{end_outcome, means_outcome}
use Rattle.dsdarc_c.proofs.content.PushPlayer.end.Goals as goal

pub returns : goal.returns
returns c =
    let old = c.self.inside.pushing in
    let new = c.end-ended.new.p in
    let e = c.end-ended.ensures in
    let outcome = end_outcome old new c.end-ended.result e.accepted e.same e.ends e.refused e.plays in
    let means = means_outcome (Ended old new) (EndRefused old new) c.status_of_outcome.result c.end-ended.result c.status_of_outcome.ensures outcome in
    subst (λ p. StatusMeans (Ended p new) (EndRefused p new) c.status_of_outcome.result) c.self.view_is means
