use Rattle.std.proofs.Common.{◌≡◌, ◌+◌, ◌*◌, ◌∙◌, ap, arith, get_or, inl, inr, pos, slice_index}
use Rattle.std.proofs.lemmas.Bool.{cases_lt}
use Rattle.std.proofs.lemmas.List.Elements.{All-get_or}
use Rattle.wave_core.specs.Contents.{IsSample}
use Rattle.wave_core.specs.Texts.{sample_bytes}
use Rattle.wave_core.proofs.FrameLaws.{sample_back}
use Rattle.wave_core.proofs.sound.fill_pairs.Goals as goal

pub loop-i-preserved : goal.loop-i-preserved
loop-i-preserved c =
    let i = c.loop-i.i in
    let width = c.args.width in
    let first = c.put_sample.ensures in
    let second = c.put_sample-in-loop-i.ensures in
    let left_back = sample_back width (get_or c.args.left.now i (pos 0)) c.requires.width (All-get_or (IsSample width) c.args.left.now i (pos 0) c.loop-i-test.true c.requires.left) in
    let right_back = sample_back width (get_or c.args.right.now i (pos 0)) c.requires.width (All-get_or (IsSample width) c.args.right.now i (pos 0) (omega (arith, c.loop-i-test.true, c.requires.as_many)) c.requires.right) in
    record {
      size = c.put_sample-in-loop-i.auto.to ∙ c.put_sample.auto.to ∙ c.loop-i.invariant.size;
      left = λ j k below in_bytes. elim (cases_lt j i) [
        | inl low ↦ second.others (j * 2) k (λ e. omega (arith, e, low)) in_bytes ∙ first.others (j * 2) k (λ e. omega (arith, e, low)) in_bytes ∙ c.loop-i.invariant.left j k low in_bytes
        | inr high ↦
            let e : j ≡ i = omega arith in
            rw e (second.others (i * 2) k (λ e. omega (arith, e)) in_bytes ∙ first.own k in_bytes ∙ ap (λ z. slice_index (sample_bytes width z) k) left_back)
      ];
      right = λ j k below in_bytes. elim (cases_lt j i) [
        | inl low ↦ second.others (j * 2 + 1) k (λ e. omega (arith, e, low)) in_bytes ∙ first.others (j * 2 + 1) k (λ e. omega (arith, e, low)) in_bytes ∙ c.loop-i.invariant.right j k low in_bytes
        | inr high ↦
            let e : j ≡ i = omega arith in
            rw e (second.own k in_bytes ∙ ap (λ z. slice_index (sample_bytes width z) k) right_back)
      ];
    }
