use Rattle.std.proofs.Common.{◌≡◌, ◌+◌, ◌-◌, ◌*◌, ◌/◌, ◌∙◌, ap, arith, drop, get_or, length, length-drop, pos, refl, take}
use Rattle.std.proofs.lemmas.List.{take_rest}
use Rattle.std.proofs.lemmas.List.FromFn.{get_or-map-range_with_len}
use Rattle.fir_core.specs.Windows.{window_sum, window_sums}
use Rattle.fir_core.proofs.TileLaws.{length-sums}
use Rattle.fir_core.proofs.StrideLaws.{eights_cover, eights_fit, many_follow, few_eights, some_eights, steps_within, sums_joined}
use Rattle.fir_core.proofs.strides.sum_near.Goals as goal

pub invariant_of-sum_first : goal.invariant_of-sum_first
invariant_of-sum_first g c =
    let size = length c.args.lookup.taps.now / 8 in
    let laid = c.args.lookup.laid in
    record {
      some = some_eights size c.args.lookup.step g.row.N laid.least (omega (arith, laid.some)) c.requires.number;
      few = few_eights size c.args.lookup.step g.row.N laid.least (omega (arith, laid.few)) c.requires.number;
      span = eights_fit size c.args.lookup.step c.args.lookup.span g.row.N laid.least laid.wide laid.eights c.requires.number;
      wide = eights_cover size c.args.lookup.step g.row.N laid.least c.requires.number;
    }

pub sum_first-requires : goal.sum_first-requires
sum_first-requires g c = (
  omega arith,
  (
    omega (arith, c.split_at_mut-front.ensures.front_len, c.min-many.ensures),
    steps_within (length c.split_at_mut-front.result.0.now) g.row.N (length c.args.bytes.now / c.args.lookup.step) c.args.lookup.step (length c.args.bytes.now) refl
        (many_follow _ _ _ _ _ _ _ _ c.split_at_mut-front.ensures.front_len c.saturating_sub.ensures c.min.ensures c.min-many.ensures c.if-many-eq0.false),
  ),
)

pub sum_by_lookup-requires-then-back-gt0 : goal.sum_by_lookup-requires-then-back-gt0
sum_by_lookup-requires-then-back-gt0 g c =
    let at = c.min-many.result * c.args.lookup.step in
    record {
      some = omega arith;
      each = λ i h.
          let last = c.requires.within.each (i + c.min-many.result) (omega (arith, h, c.split_at_mut-front.ensures.back_len)) in
          rw (take_rest c.args.bytes.now at) (omega (arith, length-drop at c.args.bytes.now, last));
    }

pub returns-else-back-gt0 : goal.returns-else-back-gt0
returns-else-back-gt0 g c =
    let hs = c.args.lookup.taps.now in
    let bytes = c.args.bytes.now in
    let step = c.args.lookup.step in
    let many = c.min-many.result in
    let back = c.split_at_mut-front.result.1.now in
    let none : length back ≡ 0 = omega arith in
    let whole : many + length back ≡ length c.args.sums.now = omega (arith, c.split_at_mut-front.ensures.back_len, c.min.ensures, c.min-many.ensures) in
    sums_joined hs bytes step many (length back) c.sum_first.new.sums back
    (c.sum_first.ensures ∙ ap (window_sums hs bytes step) c.split_at_mut-front.ensures.front_len)
    refl
    (λ i h. absurd (omega (arith, h, none)))
    ∙ ap (window_sums hs bytes step) whole

pub returns-then-back-gt0 : goal.returns-then-back-gt0
returns-then-back-gt0 g c =
    let hs = c.args.lookup.taps.now in
    let bytes = c.args.bytes.now in
    let step = c.args.lookup.step in
    let many = c.min-many.result in
    let number = length c.args.sums.now in
    let rest = length c.split_at_mut-front.result.1.now in
    let left = take (length bytes - many * step) (drop (many * step) bytes) in
    let is_back = c.sum_by_lookup-then-back-gt0.ensures in
    let whole : many + rest ≡ number = omega (arith, c.split_at_mut-front.ensures.back_len, c.min.ensures, c.min-many.ensures) in
    sums_joined hs bytes step many rest c.sum_first.new.sums c.sum_by_lookup-then-back-gt0.new.sums
    (c.sum_first.ensures ∙ ap (window_sums hs bytes step) c.split_at_mut-front.ensures.front_len)
    (ap length is_back ∙ length-sums hs left step rest)
    (λ i h. ap (λ xs. get_or xs i (pos 0)) is_back ∙ get_or-map-range_with_len (λ j. window_sum hs left (j * step)) 0 rest i i (pos 0) h (omega arith) ∙ ap (λ bs. window_sum hs bs (i * step)) (take_rest bytes (many * step)))
    ∙ ap (window_sums hs bytes step) whole
