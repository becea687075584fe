use Rattle.std.proofs.Common.{◌≡◌, ◌+◌, ◌-◌, ◌*◌, ◌/◌, ◌≤◌, ◌∙◌, ap, ap₂, arith, length, ◌++◌}
use Rattle.std.specs.Int.{div_ceil}
use Rattle.dsd_bits.specs.Packing.{unpacked}
use Rattle.fir_core.specs.Places.{sums_from}
use Rattle.fir_core.specs.Windows.{window_size}
use Rattle.fir_core.proofs.TileLaws.{early_enough, late_enough, parts, place_reaches, rest_reaches, same_phase, sums_split}
use Rattle.fir_core.proofs.WindowLaws.{length-aligned}
use Rattle.fir_core.proofs.tiles.sum_run.Goals as goal
use Rattle.fir_core.proofs.tiles.sum_run.Goals.{After-head-1, After-middle-1}

early_reaches : (c : After-head-1) → c.div_ceil-early.result * c.args.source.taps.now.factor + c.args.first ≤ 137438953472
early_reaches c =
    place_reaches c.div_ceil-early.result (length c.args.sums.now) c.args.source.taps.now.factor c.args.first 137438953472 (omega (arith, c.min-late.ensures)) c.requires.reach

late_reaches : (c : After-middle-1) → c.min-late.result * c.args.source.taps.now.factor + c.args.first ≤ 137438953472
late_reaches c =
    place_reaches c.min-late.result (length c.args.sums.now) c.args.source.taps.now.factor c.args.first 137438953472 (omega (arith, c.min-late.ensures)) c.requires.reach

pub sum_inside-requires-clause-phase : goal.sum_inside-requires-clause-phase
sum_inside-requires-clause-phase c =
    rw c.factor-factor.ensures.value (same_phase c.div_ceil-early.result c.args.source.taps.now.factor c.args.first c.args.source.taps.now.delay c.factor-factor.ensures.limits.whole_bytes c.requires.phase)

pub sum_inside-requires-clause-begins : goal.sum_inside-requires-clause-begins
sum_inside-requires-clause-begins c =
    let d = c.args.source.taps.now in
    let size : c.len-size.result / 8 ≡ window_size (length d.taps) d.delay = omega (arith, c.len-size.ensures, c.tables.inside.taps.ok.0, ap length (c.tables.view_is ∙ c.args.source.same), length-aligned d.taps d.delay) in
    let early : c.div_ceil-early.result ≡ div_ceil ((window_size (length d.taps) d.delay - 1) - c.args.first / 8) (d.factor / 8) =
    c.div_ceil-early.ensures ∙ ap₂ (λ m n. div_ceil m (n / 8)) (c.saturating_sub.ensures ∙ ap (λ m. (m - 1) - c.args.first / 8) size) c.factor-factor.ensures.value in
    rw c.factor-factor.ensures.value (early_enough c.div_ceil-early.result d.factor c.args.first (window_size (length d.taps) d.delay) c.factor-factor.ensures.limits.whole_bytes c.factor-factor.ensures.limits.least_factor early)

pub sum_inside-requires-clause-inside : goal.sum_inside-requires-clause-inside
sum_inside-requires-clause-inside c = λ i h.
    let d = c.args.source.taps.now in
    let late : c.min-late.result ≤ div_ceil (c.args.source.count - c.args.first) d.factor =
    rw (← c.factor-factor.ensures.value) (omega (arith, c.min-late.ensures, c.div_ceil.ensures ∙ ap (λ m. div_ceil m c.factor-factor.result) c.saturating_sub-2.ensures)) in
    rw c.factor-factor.ensures.value (late_enough i c.div_ceil-early.result c.min-late.result d.factor c.args.first c.args.source.count (omega (arith, c.factor-factor.ensures.limits.least_factor)) late (omega arith) (omega (arith, c.split_at_mut-middle.ensures.front_len)))

pub sum_plainly-requires-3 : goal.sum_plainly-requires-3
sum_plainly-requires-3 c =
    rw c.factor-factor.ensures.value (rest_reaches (length c.split_at_mut-middle.result.1.now) c.min-late.result (length c.args.sums.now) c.args.source.taps.now.factor c.args.first 137438953472
    (omega (arith, c.split_at_mut-head.ensures.back_len, c.split_at_mut-middle.ensures.back_len)) c.requires.reach)

pub sum_plainly-requires-2 : goal.sum_plainly-requires-2
sum_plainly-requires-2 c =
    rw c.split_at_mut-head.ensures.front_len (place_reaches c.div_ceil-early.result (length c.args.sums.now) c.args.source.taps.now.factor c.args.first 137438953472 (omega (arith, c.min-late.ensures)) c.requires.reach)

pub returns : goal.returns
returns c =
    let d = c.args.source.taps.now in
    let bits = unpacked c.args.source.bytes.now c.args.source.count in
    let first = c.args.first in
    let early = c.div_ceil-early.result in
    let late = c.min-late.result in
    let number = length c.args.sums.now in
    let rest = length c.split_at_mut-middle.result.1.now in
    let factor = c.factor-factor.ensures.value in
    let head : c.sum_plainly-2.new.sums ≡ sums_from d bits first early = c.sum_plainly-2.ensures ∙ ap (sums_from d bits first) c.split_at_mut-head.ensures.front_len in
    let middle : c.sum_inside.new.sums ≡ sums_from d bits (early * d.factor + first) (late - early) =
    c.sum_inside.ensures ∙ ap₂ (λ m n. sums_from d bits (early * m + first) n) factor c.split_at_mut-middle.ensures.front_len in
    let tail : c.sum_plainly-3.new.sums ≡ sums_from d bits ((late - early) * d.factor + (early * d.factor + first)) rest =
    c.sum_plainly-3.ensures ∙ ap (λ m. sums_from d bits (late * m + first) rest) factor ∙ ap (λ m. sums_from d bits m rest) (parts early late d.factor first (omega arith)) in
    let whole : early + ((late - early) + rest) ≡ number = omega (arith, c.split_at_mut-head.ensures.back_len, c.split_at_mut-middle.ensures.back_len) in
    ap₂ ◌++◌ head (ap₂ ◌++◌ middle tail ∙ sums_split d bits (early * d.factor + first) (late - early) rest)
    ∙ sums_split d bits first early ((late - early) + rest)
    ∙ ap (sums_from d bits first) whole
