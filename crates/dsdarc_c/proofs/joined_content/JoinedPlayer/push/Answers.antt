use Rattle.std.proofs.Common.{◌≡◌, subst}
use Rattle.dsdarc_c.specs.JoinedCalls.{RefusesJoined}
use Rattle.dsdarc_c.specs.JoinedMoves.{JoinedPushed}
use Rattle.dsdarc_c.specs.Statuses.{StatusMeans}
use Rattle.dsdarc_c.proofs.JoinedStatusLaws.{joined_push_outcome}
use Rattle.dsdarc_c.proofs.StatusLaws.{means_with}
use Rattle.dsdarc_c.proofs.joined_content.JoinedPlayer.push.Goals as goal

pub returns : goal.returns
returns c =
    let old = c.self.inside.joined in
    let new = c.push_joined-pushed.new.p in
    let bytes = c.args.bytes.now in
    let e = c.push_joined-pushed.ensures in
    let outcome = joined_push_outcome old new bytes c.push_joined-pushed.result e.takes e.place e.waits e.plays e.fits e.shape e.refused in
    let means = means_with (JoinedPushed old new bytes) (RefusesJoined old bytes) c.status_with.result c.args.taken.now c.status_with.new.to c.push_joined-pushed.result c.status_with.ensures outcome in
    subst (λ p. StatusMeans (JoinedPushed p new bytes c.status_with.new.to) (λ fault. RefusesJoined p bytes fault × (c.status_with.new.to ≡ c.args.taken.now)) c.status_with.result) c.self.view_is means
