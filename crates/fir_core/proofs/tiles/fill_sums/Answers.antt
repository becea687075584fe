use Rattle.std.proofs.Common.{◌≡◌, ◌∙◌, Bool, List, ap, arith, length, sym}
use Rattle.dsd_bits.specs.Packing.{unpacked}
use Rattle.fir_core.specs.Places.{sums_from}
use Rattle.fir_core.proofs.TileLaws.{length-sums_from, small_sums}
use Rattle.fir_core.proofs.tiles.fill_sums.Goals as goal

pub returns : goal.returns
returns c =
    let d = c.args.taps.now in
    let number = length c.args.sums.now in
    let bits : unpacked c.as_bytes.result.now c.len-count.result ≡ c.args.bits.now = ap (unpacked c.as_bytes.result.now) c.len-count.ensures.value ∙ sym c.as_bytes.ensures.bits in
    let is : c.sum_run.new.sums ≡ sums_from d c.args.bits.now c.args.first number = c.sum_run.ensures ∙ ap (λ (bs : List Bool). sums_from d bs c.args.first number) bits in
    record {
      value = is;
      bound = λ i h. rw is (small_sums d c.args.bits.now c.args.first number i c.factor-factor.ensures.limits.small_sum (omega (arith, ap length is, length-sums_from d c.args.bits.now c.args.first number)));
    }
