use Rattle.std.proofs.Common.{◌∙◌, ℕ, List, ap, subst}
use Rattle.std.specs.Borrow.{Bor}
use Rattle.std.specs.Str.Iter.{lines_rest}
use Rattle.std.proofs.lemmas.Iterator.Consumers.{YieldsList-end}
use Rattle.std.proofs.lemmas.Iterator.Splits.{YieldsList-from_lines}
use Rattle.command_core.specs.SumEndings.{HaveWorst, LineComesTo}
use Rattle.command_core.proofs.SumLaws.{one_more, prints_more}
use Rattle.command_core.proofs.sums.check_lines.Goals as goal

pub loop-line-preserved : goal.loop-line-preserved
loop-line-preserved g c = (
  one_more LineComesTo (λ (line : Bor (List ℕ)). line.now) c.loop-line.yielded c.in-Some.line _ _ _ c.loop-line.worst c.in_ok-status.status c.or-worst.result c.loop-line.invariant.0 c.in_ok-status.ensures.comes c.or-worst.ensures,
  prints_more _ _ _ c.loop-line.invariant.1 c.check_line.ensures.printed,
)

pub returns-in_err-status-clause-printed : goal.returns-in_err-status-clause-printed
returns-in_err-status-clause-printed g c = prints_more _ _ _ c.loop-line.invariant.1 c.check_line.ensures.printed

pub returns-clause-comes : goal.returns-clause-comes
returns-clause-comes g c =
    let end = YieldsList-end (YieldsList-from_lines c.args.text.now (ap lines_rest c.into_iter-line-iterator.ensures.into_iter_gives ∙ c.lines-line-items.ensures.rest)) c.loop-line.yielded c.loop-line.line-iterator c.loop-line.yielded_by c.next.result c.next.new.self c.in-None.is c.next.ensures.steps in
    subst (λ (ls : List (List ℕ)). HaveWorst LineComesTo ls (g.H.Host.state c.args.host.now) (g.H.Host.state c.loop-line.host) c.loop-line.worst) end.0 c.loop-line.invariant.0
