use Rattle.std.proofs.Common.{◌≡◌, ◌+◌, ◌*◌, ◌/◌, ◌≤◌, ◌∙◌, ap, arith, get_or, inl, inr, length, pos, slice_index, subst, sym}
use Rattle.std.proofs.lemmas.Bool.{cases_lt}
use Rattle.std.proofs.lemmas.List.Elements.{All-get_or}
use Rattle.wave_core.specs.Contents.{IsSample}
use Rattle.wave_core.specs.Texts.{sample_bytes}
use Rattle.wave_core.proofs.FrameLaws.{bytes_within, channels_apart, frames_apart, is_sample, place_below, sample_back}
use Rattle.wave_core.proofs.sound.spread.Goals as goal

pub loop-i-preserved : goal.loop-i-preserved
loop-i-preserved c =
    let n = c.args.channels in
    let i = c.loop-i.i in
    let back = sample_back c.args.width (get_or c.args.samples.now i (pos 0)) c.requires.width (All-get_or (IsSample c.args.width) c.args.samples.now i (pos 0) c.loop-i-test.true c.requires.values) in
    record {
      own = λ j k below in_bytes. elim (cases_lt j i) [
        | inl low ↦ c.put_sample.ensures.others (j * n + c.args.c) k (frames_apart j i n c.args.c c.requires.channel (omega arith)) in_bytes ∙ c.loop-i.invariant.own j k low in_bytes
        | inr high ↦
            let e : j ≡ i = omega arith in
            rw e (c.put_sample.ensures.own k in_bytes ∙ ap (λ z. slice_index (sample_bytes c.args.width z) k) back)
      ];
      others = λ j d k in_frame apart in_bytes. c.put_sample.ensures.others (j * n + d) k (channels_apart j i n c.args.c d c.requires.channel in_frame apart) in_bytes ∙ c.loop-i.invariant.others j d k in_frame apart in_bytes;
    }

pub overflow_mul-i : goal.overflow_mul-i
overflow_mul-i c =
    let within = bytes_within c.loop-i.i c.args.c c.args.channels (length c.args.samples.now) (c.args.width / 8) (length c.args.to.now) c.loop-i-test.true c.requires.channel c.requires.enough in
    omega (arith, place_below c.args.width (c.loop-i.i * c.args.channels + c.args.c) (length c.args.to.now) c.requires.width within)

pub overflow_add-i : goal.overflow_add-i
overflow_add-i c =
    let within = bytes_within c.loop-i.i c.args.c c.args.channels (length c.args.samples.now) (c.args.width / 8) (length c.args.to.now) c.loop-i-test.true c.requires.channel c.requires.enough in
    omega (arith, place_below c.args.width (c.loop-i.i * c.args.channels + c.args.c) (length c.args.to.now) c.requires.width within)

pub put_sample-requires : goal.put_sample-requires
put_sample-requires c =
    record {
      width = c.requires.width;
      value = is_sample c.args.width c.args.samples.now c.loop-i.i c.requires.width c.requires.values c.loop-i-test.true;
      inside = bytes_within c.loop-i.i c.args.c c.args.channels (length c.args.samples.now) (c.args.width / 8) (length c.loop-i.to) c.loop-i-test.true c.requires.channel (subst (λ n. length c.args.samples.now * c.args.channels * (c.args.width / 8) ≤ n) (sym c.loop-i.auto.to) c.requires.enough);
    }

pub returns : goal.returns
returns c = record {
  own = λ i k below in_bytes. c.loop-i.invariant.own i k (omega (arith, below, c.loop-i-test.false)) in_bytes;
  others = λ i d k in_frame apart in_bytes. c.loop-i.invariant.others i d k in_frame apart in_bytes;
}
