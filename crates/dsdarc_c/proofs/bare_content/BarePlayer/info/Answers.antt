use Rattle.std.proofs.Common.{◌≡◌, subst}
use Rattle.dsdarc_c.specs.BareReporting.{RefusesBitsInfo, ReportsBits}
use Rattle.dsdarc_c.specs.Statuses.{StatusMeans}
use Rattle.dsdarc_c.proofs.BareStatusLaws.{either_is}
use Rattle.dsdarc_c.proofs.StatusLaws.{means_with}
use Rattle.dsdarc_c.proofs.bare_content.BarePlayer.info.Goals as goal

pub returns : goal.returns
returns c =
    let p = c.self.inside.bare in
    let e = c.bits_info-stated.ensures in
    let means = means_with (ReportsBits p) (RefusesBitsInfo p) c.status_with.result c.args.info.now c.status_with.new.to c.bits_info-stated.result c.status_with.ensures (either_is (ReportsBits p) (RefusesBitsInfo p) c.bits_info-stated.result e.ok e.err) in
    subst (λ q. StatusMeans (ReportsBits q c.status_with.new.to) (λ fault. RefusesBitsInfo q fault × (c.status_with.new.to ≡ c.args.info.now)) c.status_with.result) c.self.view_is means
