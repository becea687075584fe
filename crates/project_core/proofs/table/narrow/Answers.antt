use Rattle.std.proofs.Common.{◌≡◌, pos, rules, get_or, FitsSigned, to_z, of_z, w32, w64}
use Rattle.std.proofs.lemmas.Int.{to_z-of_z}
use Rattle.std.proofs.lemmas.Result.{err_from_is_err_and}
use Rattle.project_core.specs.declared.fault.ProjectFault.TheVariants.{Memory}
use Rattle.project_core.specs.Reading.{signed_of, narrow}
use Rattle.project_core.proofs.Each.{each_goes_on, each_ends, each_done}
use Rattle.project_core.proofs.StepLaws.{gives_fault}
use Rattle.project_core.proofs.table.narrow.Goals as goal

pub returns-in_err-number : goal.returns-in_err-number
unfolding narrow
returns-in_err-number c =
    let p = err_from_is_err_and c.from_residual.result c.from_residual.ensures.1 in
    let x = get_or c.args.integers.now c.loop-integer.integer-index (pos 0) in
    let fits : FitsSigned w64 x = search rules in
    rw (p.1, p.2) (each_ends c.in_err-number.field-0.0 (λ _. signed_of c.args.key c.args.place) c.loop-integer.numbers.items c.args.integers.now c.loop-integer.integer-index (pos 0) (to_z w64 (of_z w64 x)) _ c.loop-integer-test.true (to_z-of_z w64 x fits) c.in_err-number.ensures c.loop-integer.invariant)

pub loop-integer-preserved : goal.loop-integer-preserved
loop-integer-preserved c =
    let x = get_or c.args.integers.now c.loop-integer.integer-index (pos 0) in
    let fits : FitsSigned w64 x = search rules in
    let n = c.in_ok-number.number in
    let number_fits : FitsSigned w32 n = search rules in
    let same : to_z w32 (of_z w32 n) ≡ n = to_z-of_z w32 n number_fits in
    rw (c.in_ok-push.ensures.items, same) (each_goes_on (λ _. signed_of c.args.key c.args.place) c.loop-integer.numbers.items c.args.integers.now c.loop-integer.integer-index (pos 0) (to_z w64 (of_z w64 x)) c.in_ok-number.number _ c.loop-integer-test.true (to_z-of_z w64 x fits) c.in_ok-number.ensures c.loop-integer.invariant)

pub returns-in_err-push : goal.returns-in_err-push
returns-in_err-push c = gives_fault _ _ Memory _ c.from_residual-in_err-push.ensures.1 tt

pub returns : goal.returns
unfolding narrow
returns c = each_done (λ _. signed_of c.args.key c.args.place) c.loop-integer.numbers.items c.args.integers.now c.loop-integer.integer-index _ c.loop-integer-test.false c.loop-integer.invariant
