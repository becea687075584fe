use Rattle.std.proofs.Common.{◌≡◌, ℤ, List, Ok, subst}
use Rattle.std.proofs.lemmas.Result.{err_from_is_err_and}
use Rattle.toml.specs.View.{table_view, view}
use Rattle.project_core.specs.Faults.{limit_fault}
use Rattle.fir_core.specs.Decimator.{Decimator}
use Rattle.fir_core.specs.Faults.{broken_limit}
use Rattle.project_core.specs.ReadingDecimate.{decimate_of, unless_broken}
use Rattle.project_core.specs.Steps.{Fails}
use Rattle.project_core.proofs.DecimateLaws.{broken_fails, factor_fails, unbroken_is}
use Rattle.project_core.proofs.StepLaws.{gives_fault, step_fails, then_fails, then_is}
use Rattle.project_core.proofs.decimate_table.decimate_of.Goals as goal

pub returns-in_err-factor : goal.returns-in_err-factor
returns-in_err-factor c =
    let e = err_from_is_err_and c.from_residual-in_err-factor.result c.from_residual-in_err-factor.ensures.1 in
    rw (e.1, e.2) (factor_fails (view c.args.value.now) (table_view c.in_ok-table.table.now) c.in_ok-taps.taps.items c.in_err-factor.field-0.0 c.in_ok-table.ensures c.in_ok-taps.ensures c.in_err-factor.ensures)

pub returns-in_err-shift : goal.returns-in_err-shift
unfolding decimate_of
returns-in_err-shift c =
    gives_fault _ _ c.in_err-shift.field-0.0 _ c.from_residual-in_err-shift.ensures.1
    (then_fails c.in_err-shift.field-0.0 _ _ _ c.in_ok-table.ensures (then_fails c.in_err-shift.field-0.0 _ _ _ c.in_ok-taps.ensures (then_fails c.in_err-shift.field-0.0 _ _ _ c.in_ok-factor.ensures (then_fails c.in_err-shift.field-0.0 _ _ _ c.in_ok-delay.ensures (step_fails c.in_err-shift.field-0.0 _ _ c.in_err-shift.ensures)))))

pub returns-in_err-width : goal.returns-in_err-width
unfolding decimate_of
returns-in_err-width c =
    gives_fault _ _ c.in_err-width.field-0.0 _ c.from_residual-in_err-width.ensures.1
    (then_fails c.in_err-width.field-0.0 _ _ _ c.in_ok-table.ensures (then_fails c.in_err-width.field-0.0 _ _ _ c.in_ok-taps.ensures (then_fails c.in_err-width.field-0.0 _ _ _ c.in_ok-factor.ensures (then_fails c.in_err-width.field-0.0 _ _ _ c.in_ok-delay.ensures (then_fails c.in_err-width.field-0.0 _ _ _ c.in_ok-shift.ensures (step_fails c.in_err-width.field-0.0 _ _ c.in_err-width.ensures))))))

pub returns-in_err-new : goal.returns-in_err-new
unfolding decimate_of
returns-in_err-new c =
    let made : List ℤ → Decimator = λ xs. record { taps = xs; factor = c.in_ok-factor.factor; delay = c.in_ok-delay.delay; shift = c.in_ok-shift.shift; width = c.in_ok-width.width } in
    gives_fault _ _ (limit_fault c.in_err-new.field-0.0) _ c.from_residual-in_err-new.ensures.1
    (then_fails (limit_fault c.in_err-new.field-0.0) _ _ _ c.in_ok-table.ensures (then_fails (limit_fault c.in_err-new.field-0.0) _ _ _ c.in_ok-taps.ensures (then_fails (limit_fault c.in_err-new.field-0.0) _ _ _ c.in_ok-factor.ensures (then_fails (limit_fault c.in_err-new.field-0.0) _ _ _ c.in_ok-delay.ensures (then_fails (limit_fault c.in_err-new.field-0.0) _ _ _ c.in_ok-shift.ensures (then_fails (limit_fault c.in_err-new.field-0.0) _ _ _ c.in_ok-width.ensures (subst (λ (xs : List ℤ). Fails (limit_fault c.in_err-new.field-0.0) (unless_broken (broken_limit (made xs)) (made xs))) c.deref.ensures.value (broken_fails (made c.deref.result.now) c.in_err-new.field-0.0 c.in_err-new.ensures.order))))))))

pub returns : goal.returns
unfolding decimate_of
returns c =
    let made : List ℤ → Decimator = λ xs. record { taps = xs; factor = c.in_ok-factor.factor; delay = c.in_ok-delay.delay; shift = c.in_ok-shift.shift; width = c.in_ok-width.width } in
    then_is _ _ _ _ c.in_ok-table.ensures (then_is _ _ _ _ c.in_ok-taps.ensures (then_is _ _ _ _ c.in_ok-factor.ensures (then_is _ _ _ _ c.in_ok-delay.ensures (then_is _ _ _ _ c.in_ok-shift.ensures (then_is _ _ _ _ c.in_ok-width.ensures (subst (λ (xs : List ℤ). unless_broken (broken_limit (made xs)) (made xs) ≡ Ok c.in_ok-new.field-0) c.deref.ensures.value (unbroken_is (made c.deref.result.now) c.in_ok-new.field-0 c.in_ok-new.ensures.order c.in_ok-new.ensures.ok)))))))
