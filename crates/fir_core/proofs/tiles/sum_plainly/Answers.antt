use Rattle.std.proofs.lemmas.Int.{to_z-of_z}
use Rattle.std.proofs.Common.{◌∙◌, w32, ℕ, ◌+◌, ◌*◌, get_or, length, pos, refl, arith}
use Rattle.std.proofs.lemmas.List.FromFn.{fill_by_all}
use Rattle.dsd_bits.specs.Packing.{unpacked}
use Rattle.fir_core.specs.Convolution.{conv}
use Rattle.fir_core.proofs.TileLaws.{next_product}
use Rattle.fir_core.proofs.InPlace.{one_more}
use Rattle.fir_core.proofs.tiles.sum_plainly.Goals as goal

pub returns : goal.returns
returns c =
    fill_by_all (λ i. conv c.args.source.taps.now.taps (unpacked c.args.source.bytes.now c.args.source.count) (i * c.args.source.taps.now.factor + c.args.first)) c.loop-i.sums (length c.args.sums.now) (pos 0) c.loop-i.auto.sums
    (λ k h. rw (← c.factor-factor.ensures.value) (c.loop-i.invariant k (omega arith)))

pub overflow_mul-place : goal.overflow_mul-place
overflow_mul-place c =
    rw c.factor-factor.ensures.value (omega (arith, next_product c.loop-i.i (length c.args.sums.now) c.args.source.taps.now.factor (omega arith), c.requires, c.factor-factor.ensures.limits.least_factor))

pub overflow_add-place : goal.overflow_add-place
overflow_add-place c =
    rw c.factor-factor.ensures.value (omega (arith, next_product c.loop-i.i (length c.args.sums.now) c.args.source.taps.now.factor (omega arith), c.requires, c.factor-factor.ensures.limits.least_factor))

pub sum_over-requires : goal.sum_over-requires
sum_over-requires c =
    rw c.factor-factor.ensures.value (omega (arith, next_product c.loop-i.i (length c.args.sums.now) c.args.source.taps.now.factor (omega arith), c.requires, c.factor-factor.ensures.limits.least_factor))

pub loop-i-preserved : goal.loop-i-preserved
loop-i-preserved c =
    let done = λ (k : ℕ). conv c.args.source.taps.now.taps (unpacked c.args.source.bytes.now c.args.source.count) (k * c.factor-factor.result + c.args.first) in
    one_more done (λ k. get_or c.loop-i.sums k (pos 0)) c.loop-i.sums c.loop-i.i c.sum_over.result (omega arith) (to_z-of_z w32 _ (record { sfits = c.sum_over.type_inv }) ∙ c.sum_over.ensures.value) c.loop-i.invariant (λ k h l. refl)
