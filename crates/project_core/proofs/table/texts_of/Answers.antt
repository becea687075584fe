use Rattle.std.proofs.Common.{◌≡◌, ◌∷◌, [], ◌++◌, map, string_bytes}
use Rattle.std.proofs.lemmas.List.{map_push}
use Rattle.std.proofs.lemmas.Result.{err_from_is_err_and}
use Rattle.project_core.specs.Reading.{text_of}
use Rattle.project_core.proofs.Each.{values_go_on, values_end, values_done}
use Rattle.project_core.proofs.table.texts_of.Goals as goal

pub returns-in_err-text : goal.returns-in_err-text
returns-in_err-text c =
    let p = err_from_is_err_and c.from_residual.result c.from_residual.ensures.1 in
    rw (p.1, p.2) (values_end c.in_err-text.field-0.0 (λ _. text_of c.args.key c.args.place) (map string_bytes c.loop-value.texts.items) c.args.values.now c.loop-value.value-index c.value-item.result _ c.loop-value-test.true c.value-item.is c.in_err-text.ensures c.loop-value.invariant)

pub loop-value-preserved : goal.loop-value-preserved
loop-value-preserved c =
    let t = c.in_ok-copy.copy in
    let e : map string_bytes c.push.new.self.items ≡ map string_bytes c.loop-value.texts.items ++ c.in_ok-text.text.now ∷ [] = rw (c.in_ok-push.ensures.items, map_push string_bytes c.loop-value.texts.items t, c.in_ok-copy.ensures.ok) in
    rw e (values_go_on (λ _. text_of c.args.key c.args.place) (map string_bytes c.loop-value.texts.items) c.args.values.now c.loop-value.value-index c.value-item.result _ _ c.loop-value-test.true c.value-item.is c.in_ok-text.ensures c.loop-value.invariant)

pub returns : goal.returns
returns c = values_done (λ _. text_of c.args.key c.args.place) (map string_bytes c.loop-value.texts.items) c.args.values.now c.loop-value.value-index _ c.loop-value-test.false c.loop-value.invariant
