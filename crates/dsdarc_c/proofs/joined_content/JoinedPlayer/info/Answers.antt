use Rattle.std.proofs.Common.{◌≡◌, subst}
use Rattle.dsdarc_c.specs.JoinedCalls.{RefusesJoinedInfo, ReportsJoined}
use Rattle.dsdarc_c.specs.Statuses.{StatusMeans}
use Rattle.dsdarc_c.proofs.BareStatusLaws.{either_is}
use Rattle.dsdarc_c.proofs.StatusLaws.{means_with}
use Rattle.dsdarc_c.proofs.joined_content.JoinedPlayer.info.Goals as goal

pub returns : goal.returns
returns c =
    let p = c.self.inside.joined in
    let e = c.joined_info-stated.ensures in
    let means = means_with (ReportsJoined p) (RefusesJoinedInfo p) c.status_with.result c.args.info.now c.status_with.new.to c.joined_info-stated.result c.status_with.ensures (either_is (ReportsJoined p) (RefusesJoinedInfo p) c.joined_info-stated.result e.ok e.err) in
    subst (λ q. StatusMeans (ReportsJoined q c.status_with.new.to) (λ fault. RefusesJoinedInfo q fault × (c.status_with.new.to ≡ c.args.info.now)) c.status_with.result) c.self.view_is means
