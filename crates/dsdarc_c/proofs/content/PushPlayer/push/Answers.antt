use Rattle.std.proofs.Common.{◌≡◌, subst}
use Rattle.dsdarc_c.specs.Calls.{PushRefused, Pushed}
use Rattle.dsdarc_c.specs.Statuses.{StatusMeans}
use Rattle.dsdarc_c.proofs.StatusLaws.{means_with, push_outcome}
use Rattle.dsdarc_c.proofs.content.PushPlayer.push.Goals as goal

pub returns : goal.returns
returns c =
    let old = c.self.inside.pushing in
    let new = c.push-pushed.new.p in
    let bytes = c.args.bytes.now in
    let e = c.push-pushed.ensures in
    let outcome = push_outcome old new bytes c.push-pushed.result e.takes e.place e.waits e.goes_on e.known e.plays e.taps e.refused e.failed e.after_fault e.as_before e.whole in
    let means = means_with (Pushed old new bytes) (PushRefused old new bytes) c.status_with.result c.args.taken.now c.status_with.new.to c.push-pushed.result c.status_with.ensures outcome in
    subst (λ p. StatusMeans (Pushed p new bytes c.status_with.new.to) (λ fault. PushRefused p new bytes fault × (c.status_with.new.to ≡ c.args.taken.now)) c.status_with.result) c.self.view_is means
