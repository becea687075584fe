use Rattle.std.proofs.Common.{◌/◌, ◌∙◌, ap, of_z, slice_index, w32}
use Rattle.std.specs.Int.{to_le_bytes}
use Rattle.wave_core.proofs.FrameLaws.{sample_back}
use Rattle.wave_core.proofs.SampleLaws.{low_bytes, three_bytes, three_others, three_own, two_others, two_own}
use Rattle.wave_core.proofs.sound.put_sample.Goals as goal

pub returns-then-width-eq16 : goal.returns-then-width-eq16
returns-then-width-eq16 c =
    let width = c.args.width in
    let size = ap (λ w. w / 8) c.if-width-eq16.true in
    let stored = c.to_le_bytes.ensures ∙ ap (λ z. to_le_bytes w32 (of_z w32 z)) (sample_back width c.args.value c.requires.width c.requires.value) in
    record {
      own = λ k h. two_own c.args.to.now c.to_le_bytes.result c.args.place (width / 8) k size c.requires.inside h ∙ ap (λ bs. slice_index bs k) stored ∙ low_bytes width c.args.value k c.requires.width c.requires.value h;
      others = λ p k apart h. two_others c.args.to.now c.to_le_bytes.result c.args.place (width / 8) p k size apart h;
    }

pub returns : goal.returns
returns c =
    let width = c.args.width in
    let size = three_bytes width c.requires.width c.if-width-eq16.false in
    let stored = c.to_le_bytes.ensures ∙ ap (λ z. to_le_bytes w32 (of_z w32 z)) (sample_back width c.args.value c.requires.width c.requires.value) in
    record {
      own = λ k h. three_own c.args.to.now c.to_le_bytes.result c.args.place (width / 8) k size c.requires.inside h ∙ ap (λ bs. slice_index bs k) stored ∙ low_bytes width c.args.value k c.requires.width c.requires.value h;
      others = λ p k apart h. three_others c.args.to.now c.to_le_bytes.result c.args.place (width / 8) p k size apart h;
    }
