use Rattle.std.proofs.Common.{◌≡◌, ◌⊎◌, subst}
use Rattle.project_core.specs.Projects.{project_content}
use Rattle.dsdarc_c.specs.JoinedCalls.{RefusesJoinedFilter, RefusesJoinedText}
use Rattle.dsdarc_c.specs.JoinedMoves.{IsFilteredBy, IsJoinFiltered}
use Rattle.dsdarc_c.proofs.JoinedStatusLaws.{filter_joined_outcome, text_outcome}
use Rattle.dsdarc_c.proofs.StatusLaws.{means_outcome}
use Rattle.dsdarc_c.proofs.joined_content.JoinedPlayer.filter.Goals as goal

pub returns-in-Some : goal.returns-in-Some
returns-in-Some c =
    let old = c.self.inside.joined in
    let new = c.filter_joined-filtered.new.p in
    let text = c.args.project.now in
    let d = c.in-Some.taps in
    let e = c.filter_joined-filtered.ensures in
    let outcome = filter_joined_outcome old new d c.filter_joined-filtered.result e.plays e.place e.shape e.refused in
    let means = means_outcome (IsFilteredBy d old new) (RefusesJoinedFilter old d) c.status_of_outcome.result c.filter_joined-filtered.result c.status_of_outcome.ensures outcome in
    let both = text_outcome old new text d c.status_of_outcome.result (project_content c.in-Ok.field-0, c.in-Ok.ensures.exact, c.in-Some.is) means in
    subst (λ p. ((c.status_of_outcome.result ≡ 0) × IsJoinFiltered p new text) ⊎ RefusesJoinedText p text c.status_of_outcome.result) c.self.view_is both
