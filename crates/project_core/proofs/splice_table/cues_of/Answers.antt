use Rattle.std.proofs.Common.{◌≡◌, ◌∷◌, [], ◌++◌, map}
use Rattle.std.proofs.lemmas.List.{map_push}
use Rattle.std.proofs.lemmas.Result.{err_from_is_err_and}
use Rattle.splice_core.specs.Cues.{cue_content}
use Rattle.project_core.specs.ReadingCue.{cue_of}
use Rattle.project_core.proofs.Each.{values_go_on, values_end, values_done}
use Rattle.project_core.proofs.splice_table.cues_of.Goals as goal

pub returns-in_err-cue : goal.returns-in_err-cue
returns-in_err-cue c =
    let p = err_from_is_err_and c.from_residual.result c.from_residual.ensures.1 in
    rw (p.1, p.2) (values_end c.in_err-cue.field-0.0 (cue_of c.args.weights c.args.takes) (map cue_content c.loop-number.cues.items) c.args.values.now c.loop-number.number c.index-values-number.result _ c.loop-number-test.true c.index-values-number.is c.in_err-cue.ensures c.loop-number.invariant)

pub loop-number-preserved : goal.loop-number-preserved
loop-number-preserved c =
    let q = c.in_ok-cue.cue in
    let e : map cue_content c.push.new.self.items ≡ map cue_content c.loop-number.cues.items ++ cue_content q ∷ [] = rw c.in_ok-push.ensures.items (map_push cue_content c.loop-number.cues.items q) in
    rw e (values_go_on (cue_of c.args.weights c.args.takes) (map cue_content c.loop-number.cues.items) c.args.values.now c.loop-number.number c.index-values-number.result _ _ c.loop-number-test.true c.index-values-number.is c.in_ok-cue.ensures c.loop-number.invariant)

pub returns : goal.returns
returns c = values_done (cue_of c.args.weights c.args.takes) (map cue_content c.loop-number.cues.items) c.args.values.now c.loop-number.number _ c.loop-number-test.false c.loop-number.invariant
