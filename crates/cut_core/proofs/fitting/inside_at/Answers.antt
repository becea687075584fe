use Rattle.std.proofs.Common.{ap, arith, refl}
use Rattle.std.proofs.lemmas.Bool.{le-leb}
use Rattle.splice_core.specs.Cues.{CueContent}
use Rattle.cut_core.specs.Excerpts.{TakeShape}
use Rattle.cut_core.proofs.fitting.inside_at.Goals as goal

pub returns : goal.returns
returns c =
    let stop = ap (λ (q : CueContent). q.stop) c.cue_at.ensures.value in
    let count = ap (λ (s : TakeShape). s.count) c.take_of.ensures.shape in
    rw (← stop, ← count, le-leb c.cue_at.result.now.stop c.take_of.result.now.count (omega arith)) refl
