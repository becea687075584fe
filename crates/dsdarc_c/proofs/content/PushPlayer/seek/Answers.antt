use Rattle.std.proofs.Common.{◌≡◌, subst}
use Rattle.dsdarc_c.specs.Calls.{SeekRefused, Sought}
use Rattle.dsdarc_c.specs.Statuses.{StatusMeans}
use Rattle.dsdarc_c.proofs.StatusLaws.{means_with, seek_outcome}
use Rattle.dsdarc_c.proofs.content.PushPlayer.seek.Goals as goal

pub returns : goal.returns
returns c =
    let old = c.self.inside.pushing in
    let new = c.seek-sought.new.p in
    let frame = c.args.frame in
    let e = c.seek-sought.ensures in
    let outcome = seek_outcome old new frame c.seek-sought.result e.accepted e.place e.goes_on e.stated e.plays e.taps e.refused e.same e.anew e.whole in
    let means = means_with (Sought old new frame) (SeekRefused old new frame) c.status_with.result c.args.offset.now c.status_with.new.to c.seek-sought.result c.status_with.ensures outcome in
    subst (λ p. StatusMeans (Sought p new frame c.status_with.new.to) (λ fault. SeekRefused p new frame fault × (c.status_with.new.to ≡ c.args.offset.now)) c.status_with.result) c.self.view_is means
