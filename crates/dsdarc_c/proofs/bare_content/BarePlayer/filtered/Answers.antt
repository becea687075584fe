use Rattle.std.proofs.Common.{MatchResult, subst}
use Rattle.project_core.specs.Projects.{project_content}
use Rattle.dsdarc_c.specs.BareMoves.{IsFiltered, RefusesFiltered}
use Rattle.dsdarc_c.proofs.BareStatusLaws.{filter_outcome}
use Rattle.dsdarc_c.proofs.bare_content.BarePlayer.filtered.Goals as goal

pub returns-in-Some : goal.returns-in-Some
returns-in-Some c =
    let text = c.args.project.now in
    let e = c.with_filter.ensures in
    let outcome = filter_outcome c.self.inside.bare text c.in-Some.taps c.with_filter.result c.of.result (project_content c.in-Ok.field-0, c.in-Ok.ensures.exact, c.in-Some.is) e.plays e.made e.refused c.of.ensures.ok c.of.ensures.err in
    subst (λ p. MatchResult c.of.result (IsFiltered p text) (RefusesFiltered p text)) c.self.view_is outcome
