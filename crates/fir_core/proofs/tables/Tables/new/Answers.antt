use Rattle.std.proofs.Common.{◌≡◌, ◌+◌, ◌*◌, ◌/◌, ◌%◌, ◌<◌, ◌≤◌, ◌∙◌, ap, arith, length}
use Rattle.fir_core.specs.Lookup.{lookup}
use Rattle.fir_core.proofs.RowLaws.{is_laid}
use Rattle.fir_core.proofs.WindowLaws.{abs_sum_aligned, length-aligned}
use Rattle.fir_core.proofs.tables.Tables.new.Goals as goal

pub invariant_of-layout-clause-small : goal.invariant_of-layout-clause-small
invariant_of-layout-clause-small c =
    rw (c.as_slice.ensures.value ∙ c.in_ok-aligned.ensures) (omega (arith, abs_sum_aligned c.args.taps.now.taps c.args.taps.now.delay, c.factor.ensures.limits.small_sum))

pub invariant_of-result : goal.invariant_of-result
invariant_of-result c =
    let d = c.args.taps.now in
    let limits = c.factor.ensures.limits in
    let step = c.factor.result / 8 in
    let same : length c.in_ok-aligned.aligned.items ≡ c.len.result = omega (arith, c.len.ensures, c.in_ok-aligned.aligned.ok.0) in
    let wide : length c.in_ok-aligned.aligned.items / 8 ≤ c.span_of-span.result * step = rw same c.span_of-span.ensures.wide in
    let loose : 0 < step % 8 → length c.in_ok-aligned.aligned.items / 8 + 7 ≤ c.span_of-span.result * step = rw same c.span_of-span.ensures.loose in
    is_laid d.taps c.in_ok-aligned.aligned.items c.in_ok-lookup.lookup.items d.delay step c.span_of-span.result c.in_ok-aligned.ensures limits.some_taps limits.few_taps limits.small_sum
    (omega (arith, c.factor.ensures.value, limits.least_factor)) (omega (arith, c.factor.ensures.value, limits.greatest_factor)) wide loose c.span_of-span.ensures.narrow c.span_of-span.ensures.eights
    (c.in_ok-lookup.ensures ∙ ap (λ hs. lookup hs step c.span_of-span.result) c.as_slice.ensures.value)

pub invariant_of-layout-clause-whole : goal.invariant_of-layout-clause-whole
invariant_of-layout-clause-whole c =
    rw (c.as_slice.ensures.value ∙ c.in_ok-aligned.ensures) (omega (arith, length-aligned c.args.taps.now.taps c.args.taps.now.delay))
