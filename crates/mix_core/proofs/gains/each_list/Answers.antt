use Rattle.std.proofs.Common.{◌≡◌, ◌∷◌, [], ◌++◌, List, map, Global, Vec}
use Rattle.std.proofs.lemmas.List.{map_push}
use Rattle.std.proofs.lemmas.Result.{err_from_is_err_and}
use Rattle.clip_core.specs.declared.gain.Point.{Point}
use Rattle.project_core.specs.declared.key.Key.TheVariants as keys
use Rattle.project_core.proofs.Each.{values_go_on, values_end, values_done}
use Rattle.mix_core.specs.ReadingGains.{points_of}
use Rattle.mix_core.proofs.gains.each_list.Goals as goal

abbrev held : Vec Point Global → List Point
held points = points.items

pub returns-in_err-points : goal.returns-in_err-points
returns-in_err-points c =
    let p = err_from_is_err_and c.from_residual.result c.from_residual.ensures.1 in
    rw (p.1, p.2) (values_end c.in_err-points.field-0.0 (λ _. points_of keys.Gains c.args.clip) (map held c.loop-value.lists.items) c.args.values.now c.loop-value.value-index c.value-item.result _ c.loop-value-test.true c.value-item.is c.in_err-points.ensures c.loop-value.invariant)

pub loop-value-preserved : goal.loop-value-preserved
loop-value-preserved c =
    let q = c.in_ok-points.points in
    let e : map held c.push.new.self.items ≡ map held c.loop-value.lists.items ++ held q ∷ [] = rw c.in_ok-push.ensures.items (map_push held c.loop-value.lists.items q) in
    rw e (values_go_on (λ _. points_of keys.Gains c.args.clip) (map held c.loop-value.lists.items) c.args.values.now c.loop-value.value-index c.value-item.result _ _ c.loop-value-test.true c.value-item.is c.in_ok-points.ensures c.loop-value.invariant)

pub returns : goal.returns
returns c = values_done (λ _. points_of keys.Gains c.args.clip) (map held c.loop-value.lists.items) c.args.values.now c.loop-value.value-index _ c.loop-value-test.false c.loop-value.invariant
