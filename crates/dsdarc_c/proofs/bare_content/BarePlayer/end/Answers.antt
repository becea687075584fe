use Rattle.std.proofs.Common.{subst}
use Rattle.dsdarc_c.specs.BareCalls.{RefusesBareEnd}
use Rattle.dsdarc_c.specs.BareMoves.{BareEnded}
use Rattle.dsdarc_c.specs.Statuses.{StatusMeans}
use Rattle.dsdarc_c.proofs.BareStatusLaws.{bare_end_outcome}
use Rattle.dsdarc_c.proofs.StatusLaws.{means_outcome}
use Rattle.dsdarc_c.proofs.bare_content.BarePlayer.end.Goals as goal

pub returns : goal.returns
returns c =
    let old = c.self.inside.bare in
    let new = c.end_bits-ended.new.p in
    let e = c.end_bits-ended.ensures in
    let outcome = bare_end_outcome old new c.end_bits-ended.result e.accepted e.same e.ends e.refused in
    let means = means_outcome (BareEnded old new) (RefusesBareEnd old) c.status_of_outcome.result c.end_bits-ended.result c.status_of_outcome.ensures outcome in
    subst (λ p. StatusMeans (BareEnded p new) (RefusesBareEnd p) c.status_of_outcome.result) c.self.view_is means
