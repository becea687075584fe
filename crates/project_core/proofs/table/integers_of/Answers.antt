use Rattle.std.proofs.Common.{◌≡◌, rules, FitsSigned, to_z, of_z, w64}
use Rattle.std.proofs.lemmas.Int.{to_z-of_z}
use Rattle.std.proofs.lemmas.Result.{err_from_is_err_and}
use Rattle.project_core.specs.Reading.{integer_of}
use Rattle.project_core.proofs.Each.{values_go_on, values_end, values_done}
use Rattle.project_core.proofs.table.integers_of.Goals as goal

pub returns-in_err-integer : goal.returns-in_err-integer
returns-in_err-integer c =
    let p = err_from_is_err_and c.from_residual.result c.from_residual.ensures.1 in
    rw (p.1, p.2) (values_end c.in_err-integer.field-0.0 (λ _. integer_of c.args.key c.args.place) c.loop-value.integers.items c.args.values.now c.loop-value.value-index c.value-item.result _ c.loop-value-test.true c.value-item.is c.in_err-integer.ensures c.loop-value.invariant)

pub loop-value-preserved : goal.loop-value-preserved
loop-value-preserved c =
    let n = c.in_ok-integer.integer in
    let fits : FitsSigned w64 n = search rules in
    let same : to_z w64 (of_z w64 n) ≡ n = to_z-of_z w64 n fits in
    rw (c.in_ok-push.ensures.items, same) (values_go_on (λ _. integer_of c.args.key c.args.place) c.loop-value.integers.items c.args.values.now c.loop-value.value-index c.value-item.result n _ c.loop-value-test.true c.value-item.is c.in_ok-integer.ensures c.loop-value.invariant)

pub returns : goal.returns
returns c = values_done (λ _. integer_of c.args.key c.args.place) c.loop-value.integers.items c.args.values.now c.loop-value.value-index _ c.loop-value-test.false c.loop-value.invariant
