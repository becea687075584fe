use Rattle.std.proofs.Common.{◌≡◌, ◌+◌, ◌*◌, ◌<◌, length, slice_index, get_or, inl, inr, sym, ap, ◌∙◌, arith}
use Rattle.std.proofs.lemmas.Bool.{cases_lt}
use Rattle.std.proofs.lemmas.Grind.{get_or-set_at}
use Rattle.std.proofs.lemmas.List.{get_or-set_other, length-set}
use Rattle.std.proofs.lemmas.Nat.{mul-add-lt}
use Rattle.dsd_bits.proofs.LacingLemmas.{frames_apart, channels_apart}
use Rattle.dsd_bits.proofs.lacing.spread.Goals as goal

pub loop-frame-preserved : goal.loop-frame-preserved
loop-frame-preserved c =
    let n = c.args.channels in
    let k = c.loop-frame.frame in
    let to = c.loop-frame.to in
    let byte = get_or c.args.bytes.now k 0 in
    let inside : k * n + c.args.channel < length to = omega (arith, mul-add-lt k n c.args.channel (length c.args.bytes.now) c.loop-frame-test.true c.requires.channel, c.requires.enough, c.loop-frame.invariant.size) in
    record {
      size = length-set to (k * n + c.args.channel) byte ∙ c.loop-frame.invariant.size;
      own = λ j h. elim (cases_lt j k) [
        | inl low ↦ get_or-set_other to (k * n + c.args.channel) (j * n + c.args.channel) byte 0 (frames_apart j k n c.args.channel c.requires.channel (omega arith)) ∙ c.loop-frame.invariant.own j low
        | inr high ↦
            let e : j ≡ k = omega arith in
            get_or-set_at to (k * n + c.args.channel) (j * n + c.args.channel) byte 0 (ap (λ m. m * n + c.args.channel) e) inside ∙ ap (slice_index c.args.bytes.now) (sym e)
      ];
      others = λ j d h apart. get_or-set_other to (k * n + c.args.channel) (j * n + d) byte 0 (channels_apart j k n c.args.channel d c.requires.channel h apart) ∙ c.loop-frame.invariant.others j d h apart;
    }
