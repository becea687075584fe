use Rattle.std.proofs.Common.{◌≡◌, ◌<◌, ◌∙◌, ap, ap₂, arith, length, map}
use Rattle.std.specs.Int.{div_ceil}
use Rattle.fir_core.specs.Decimator.{sample_at}
use Rattle.fir_core.proofs.LaneLaws.{pushed}
use Rattle.fir_core.proofs.TileLaws.{below_ceil}
use Rattle.fir_core.proofs.WindowLaws.{abs_sum_aligned}
use Rattle.std.specs.List.{range_with_len}
use Rattle.fir_core.proofs.lanes.decimate_by_lanes.Goals as goal

pub sample_by_lanes-requires : goal.sample_by_lanes-requires
sample_by_lanes-requires c =
    let count = length c.args.bits.now in
    let within : c.loop-j.j < div_ceil count c.args.taps.now.factor =
    rw (← c.factor.ensures.value) (omega (arith, c.div_ceil-number.ensures ∙ ap (λ n. div_ceil n c.factor.result) c.len.ensures.value, c.loop-j-test.true)) in
    below_ceil c.loop-j.j count c.args.taps.now.factor (omega (arith, c.factor.ensures.limits.least_factor)) within

pub loop-j-preserved : goal.loop-j-preserved
loop-j-preserved c =
    pushed (sample_at c.args.taps.now c.args.bits.now) _ _ c.loop-j.j c.sample_by_lanes.result (record { sfits = c.sample_by_lanes.type_inv }) c.loop-j.invariant c.sample_by_lanes.ensures c.in_ok-push.ensures.items

pub invariant_of-reversed : goal.invariant_of-reversed
invariant_of-reversed c =
    let d = c.args.taps.now in
    let are = c.as_slice.ensures.value ∙ c.in_ok-aligned.ensures in
    record { are = are; small = rw are (omega (arith, abs_sum_aligned d.taps d.delay, c.factor.ensures.limits.small_sum)) }

pub returns : goal.returns
returns c =
    let ended : c.loop-j.j ≡ c.div_ceil-number.result = omega arith in
    c.loop-j.invariant ∙ ap (λ n. map (sample_at c.args.taps.now c.args.bits.now) (range_with_len 0 n)) (ended ∙ c.div_ceil-number.ensures ∙ ap₂ div_ceil c.len.ensures.value c.factor.ensures.value)
