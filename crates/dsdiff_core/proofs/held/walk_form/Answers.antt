use Rattle.std.proofs.Common.{◌≡◌, ap, sym, subst, ◌∙◌, arith, length}
use Rattle.std.proofs.lemmas.Bool.Decides.{nat_tests}
use Rattle.chunk_core.specs.Reading.{spans_in}
use Rattle.dsdiff_core.specs.Steps.{Fails, walked, chunk_fault}
use Rattle.dsdiff_core.proofs.ExitLaws.{fault_at}
use Rattle.dsdiff_core.proofs.HeldLaws.{is_around, whole_held}
use Rattle.dsdiff_core.proofs.JoinedSteps.{walk_fails}
use Rattle.dsdiff_core.proofs.held.walk_form.Goals as goal
use Rattle.dsdiff_core.proofs.held.walk_form.Goals.{else-file-eq0-via-then-file-eq0+else-is_empty, else-file-eq0-via-else-file-eq0}

pub returns-in_err-walk-clause-exact : goal.returns-in_err-walk-clause-exact
returns-in_err-walk-clause-exact c =
    let is = whole_held c.args.file c.requires.held c.if-file-eq0.true (grind (arith, nat_tests)) in
    fault_at _ _ c.from_residual.result _ c.from_residual.ensures.1 (subst (λ file. Fails (chunk_fault c.in_err-walk.field-0.0) (walked (spans_in file 16 c.args.end))) (sym is) (walk_fails c.in_err-walk.field-0.0 _ c.in_err-walk.ensures.exact))

pub returns-then-is_empty-clause-exact : goal.returns-then-is_empty-clause-exact
returns-then-is_empty-clause-exact c =
    let is = whole_held c.args.file c.requires.held c.if-file-eq0.true (grind (arith, nat_tests)) in
    ap (λ file. walked (spans_in file 16 c.args.end)) is ∙ ap walked c.in_ok-walk.ensures.exact

pub walk_around-requires-clause-around : goal.walk_around-requires-clause-around
walk_around-requires-clause-around c = is_around c.args.file c.requires.held (elim c.else-file-eq0.branch [
  | else-file-eq0-via-then-file-eq0+else-is_empty w ↦ (λ none end. (let zero : length c.args.file.back.now ≡ 0 = ap length end in grind (arith, nat_tests)))
  | else-file-eq0-via-else-file-eq0 w ↦ (λ none end. absurd (w.if-file-eq0.false none))
])
