use Rattle.std.proofs.Common.{◌≡◌, ℕ, ◌+◌, ◌*◌, ◌≤◌, ◌^◌, ◌∙◌, ap, sym, arith, length-set, take, drop}
use Rattle.std.specs.Simd.Lanes.{mask_l, put_chunk}
use Rattle.std.proofs.lemmas.List.{take_all}
use Rattle.std.proofs.lemmas.Simd.{Each1-from_get_or}
use Rattle.cost_core.specs.Rows.{seconds, least, lower, upper}
use Rattle.cost_core.proofs.Chunks.{chunk_of_least, chunk_of_seconds}
use Rattle.cost_core.proofs.Twice.{each_first, each_last, two_rows, two_choices}
use Rattle.trellis_core.proofs.Few.{few_long}
use Rattle.trellis_core.proofs.choosing.choose_by_eights.Goals as goal

pub sums_into-requires-clause-values : goal.sums_into-requires-clause-values
sums_into-requires-clause-values c = each_first (λ x. x ≤ 2 ^ 63) _ c.split_at.result.0.now c.args.ways.old.now c.split_at.ensures.front (Each1-from_get_or (λ x. x ≤ 2 ^ 63) c.args.ways.old.now 0 c.args.ways.ways.old_small)

pub sums_into-requires-in-loop-i-clause-values : goal.sums_into-requires-in-loop-i-clause-values
sums_into-requires-in-loop-i-clause-values c = each_last (λ x. x ≤ 2 ^ 63) _ c.split_at.result.1.now c.args.ways.old.now c.split_at.ensures.back (Each1-from_get_or (λ x. x ≤ 2 ^ 63) c.args.ways.old.now 0 c.args.ways.ways.old_small)

pub loop-i-preserved : goal.loop-i-preserved
loop-i-preserved c =
    let old = c.args.ways.old.now in
    let first = lower old c.args.ways.lows.now in
    let second = upper old c.args.ways.highs.now in
    let j : ℕ = 2 * c.loop-i.i in
    let long = few_long old c.args.ways.lows.now c.args.ways.highs.now (omega (arith, c.requires.whole)) c.args.ways.ways.lows_len c.args.ways.ways.highs_len in
    let low_front = rw c.split_at.ensures.front at c.sums_into.ensures.front in
    let low_back = rw c.split_at.ensures.front at c.sums_into.ensures.back in
    let high_front = rw c.split_at.ensures.back at c.sums_into-in-loop-i.ensures.front in
    let high_back = rw c.split_at.ensures.back at c.sums_into-in-loop-i.ensures.back in
    let v : c.choose_eight-front_choice.result.0 ≡ take 8 (drop (8 * j) (least first second)) = c.choose_eight-front_choice.ensures.row ∙ (λ z. least (low_front z) (high_front z)) ∙ chunk_of_least (8 * j) 8 first second in
    let w : c.choose_eight-back_choice.result.0 ≡ take 8 (drop (8 * (j + 1)) (least first second)) = c.choose_eight-back_choice.ensures.row ∙ (λ z. least (low_back z) (high_back z)) ∙ chunk_of_least (8 * (j + 1)) 8 first second in
    let m : c.choose_eight-front_choice.result.1 ≡ mask_l (take 8 (drop (8 * j) (seconds first second))) = c.choose_eight-front_choice.ensures.choices ∙ ap mask_l ((λ z. seconds (low_front z) (high_front z)) ∙ chunk_of_seconds (8 * j) 8 first second) in
    let n : c.choose_eight-back_choice.result.1 ≡ mask_l (take 8 (drop (8 * (j + 1)) (seconds first second))) = c.choose_eight-back_choice.ensures.choices ∙ ap mask_l ((λ z. seconds (low_back z) (high_back z)) ∙ chunk_of_seconds (8 * (j + 1)) 8 first second) in
    let e : 8 * (2 * (c.loop-i.i + 1)) ≡ 8 * (j + 2) = omega arith in
    record {
      row = ap (λ k. take k (put_chunk (8 * (j + 1)) (put_chunk (8 * j) c.loop-i.row c.choose_eight-front_choice.result.0) c.choose_eight-back_choice.result.0)) e ∙ two_rows c.loop-i.row (least first second) c.choose_eight-front_choice.result.0 c.choose_eight-back_choice.result.0 j c.loop-i.invariant.row v w (omega (arith, c.loop-i-test.true, c.split_at.ensures.front_len, c.loop-i.auto.row, c.requires.row_len)) (omega (arith, long.0, c.loop-i.auto.row, c.requires.row_len)) ∙ ap (λ k. take k (least first second)) (sym e);
      choices = λ k lt. two_choices c.loop-i.choices (seconds first second) j c.choose_eight-front_choice.result.1 c.choose_eight-back_choice.result.1 c.loop-i.invariant.choices m n (omega (arith, c.loop-i-test.true, c.split_at.ensures.front_len, c.loop-i.auto.choices, c.requires.choices_len)) k (omega (arith, lt));
    }

pub returns-clause-row : goal.returns-clause-row
returns-clause-row c =
    let old = c.args.ways.old.now in
    let n = 8 * (2 * c.loop-i.i) in
    let long = few_long old c.args.ways.lows.now c.args.ways.highs.now (omega (arith, c.requires.whole)) c.args.ways.ways.lows_len c.args.ways.ways.highs_len in
    sym (take_all n c.loop-i.row (omega arith)) ∙ c.loop-i.invariant.row ∙ take_all n (least (lower old c.args.ways.lows.now) (upper old c.args.ways.highs.now)) (omega (arith, long.0))

pub bounds-choices-j-in-loop-i : goal.bounds-choices-j-in-loop-i
bounds-choices-j-in-loop-i c = omega (arith, length-set c.loop-i.choices (2 * c.loop-i.i) c.choose_eight-front_choice.result.1, c.loop-i-test.true, c.split_at.ensures.front_len, c.loop-i.auto.choices, c.requires.choices_len)
