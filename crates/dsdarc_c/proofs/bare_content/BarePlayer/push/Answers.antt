use Rattle.std.proofs.Common.{◌≡◌, subst}
use Rattle.dsdarc_c.specs.BareCalls.{RefusesBare}
use Rattle.dsdarc_c.specs.BareMoves.{BarePushed}
use Rattle.dsdarc_c.specs.Statuses.{StatusMeans}
use Rattle.dsdarc_c.proofs.BareStatusLaws.{bare_push_outcome}
use Rattle.dsdarc_c.proofs.StatusLaws.{means_with}
use Rattle.dsdarc_c.proofs.bare_content.BarePlayer.push.Goals as goal

pub returns : goal.returns
returns c =
    let old = c.self.inside.bare in
    let new = c.push_bare-pushed.new.p in
    let bytes = c.args.bytes.now in
    let e = c.push_bare-pushed.ensures in
    let outcome = bare_push_outcome old new bytes c.push_bare-pushed.result e.takes e.place e.waits e.plays e.layout e.refused in
    let means = means_with (BarePushed old new bytes) (RefusesBare old bytes) c.status_with.result c.args.taken.now c.status_with.new.to c.push_bare-pushed.result c.status_with.ensures outcome in
    subst (λ p. StatusMeans (BarePushed p new bytes c.status_with.new.to) (λ fault. RefusesBare p bytes fault × (c.status_with.new.to ≡ c.args.taken.now)) c.status_with.result) c.self.view_is means
