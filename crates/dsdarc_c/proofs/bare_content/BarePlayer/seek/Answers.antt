use Rattle.std.proofs.Common.{◌≡◌, subst}
use Rattle.dsdarc_c.specs.BareCalls.{RefusesBareSeek}
use Rattle.dsdarc_c.specs.BareMoves.{BareSought}
use Rattle.dsdarc_c.specs.Statuses.{StatusMeans}
use Rattle.dsdarc_c.proofs.BareStatusLaws.{bare_seek_outcome}
use Rattle.dsdarc_c.proofs.StatusLaws.{means_with}
use Rattle.dsdarc_c.proofs.bare_content.BarePlayer.seek.Goals as goal

pub returns : goal.returns
returns c =
    let old = c.self.inside.bare in
    let new = c.seek_bits-sought.new.p in
    let frame = c.args.frame in
    let e = c.seek_bits-sought.ensures in
    let outcome = bare_seek_outcome old new frame c.seek_bits-sought.result e.accepted e.place e.goes_on e.plays e.layout e.refused in
    let means = means_with (BareSought old new frame) (RefusesBareSeek old frame) c.status_with.result c.args.offset.now c.status_with.new.to c.seek_bits-sought.result c.status_with.ensures outcome in
    subst (λ p. StatusMeans (BareSought p new frame c.status_with.new.to) (λ fault. RefusesBareSeek p frame fault × (c.status_with.new.to ≡ c.args.offset.now)) c.status_with.result) c.self.view_is means
