use Rattle.std.proofs.Common.{◌≡◌, ◌∷◌, [], ◌++◌, map}
use Rattle.std.proofs.lemmas.List.{map_push}
use Rattle.std.proofs.lemmas.Result.{err_from_is_err_and}
use Rattle.clip_core.specs.Clips.{clip_content}
use Rattle.project_core.proofs.Each.{values_go_on, values_end, values_done}
use Rattle.mix_core.specs.ReadingMix.{clip_of}
use Rattle.mix_core.proofs.mix_table.clips_of.Goals as goal

pub returns-in_err-clip : goal.returns-in_err-clip
returns-in_err-clip c =
    let p = err_from_is_err_and c.from_residual.result c.from_residual.ensures.1 in
    rw (p.1, p.2) (values_end c.in_err-clip.field-0.0 (clip_of c.args.takes c.args.decoders) (map clip_content c.loop-number.clips.items) c.args.values.now c.loop-number.number c.index-values-number.result _ c.loop-number-test.true c.index-values-number.is c.in_err-clip.ensures c.loop-number.invariant)

pub loop-number-preserved : goal.loop-number-preserved
loop-number-preserved c =
    let q = c.in_ok-clip.clip in
    let e : map clip_content c.push.new.self.items ≡ map clip_content c.loop-number.clips.items ++ clip_content q ∷ [] = rw c.in_ok-push.ensures.items (map_push clip_content c.loop-number.clips.items q) in
    rw e (values_go_on (clip_of c.args.takes c.args.decoders) (map clip_content c.loop-number.clips.items) c.args.values.now c.loop-number.number c.index-values-number.result _ _ c.loop-number-test.true c.index-values-number.is c.in_ok-clip.ensures c.loop-number.invariant)

pub returns : goal.returns
returns c = values_done (clip_of c.args.takes c.args.decoders) (map clip_content c.loop-number.clips.items) c.args.values.now c.loop-number.number _ c.loop-number-test.false c.loop-number.invariant
