use Rattle.std.proofs.Common.{◌+◌, ◌*◌, ◌∙◌, ap, sym, w32}
use Rattle.std.proofs.lemmas.Int.{to_z-of_z}
use Rattle.fir_core.specs.Convolution.{conv}
use Rattle.fir_core.specs.View.{decimator_of}
use Rattle.fir_core.proofs.TileLaws.{sample_stated}
use Rattle.fir_core.proofs.decimator.sample.Goals as goal

pub returns : goal.returns
returns c =
    let d = decimator_of c.taps.inside in
    let sum = to_z-of_z w32 c.sum_at.result (record { sfits = c.sum_at.type_inv }) ∙ c.sum_at.ensures.value ∙ ap (λ hs. conv hs c.args.bits.now (c.args.index * d.factor + d.delay)) (sym (ap (λ f. f.taps) c.taps.view_is)) in
    to_z-of_z w32 c.clip.result (record { sfits = c.clip.type_inv }) ∙ c.clip.ensures
    ∙ sample_stated d c.args.taps.now c.args.bits.now c.args.index _ _ c.taps.view_is sum (to_z-of_z w32 c.round.result (record { sfits = c.round.type_inv }) ∙ c.round.ensures)
