use Rattle.std.proofs.Common.{refl, ℕ, ◌+◌, ◌*◌, ◌<◌, ◌≤◌, ◌^◌, arith, get_or}
use Rattle.std.proofs.lemmas.Simd.{Each1-from_get_or}
use Rattle.cost_core.specs.Rows.{lower, upper}
use Rattle.cost_core.proofs.Chunks.{at_chunk}
use Rattle.cost_core.proofs.Twice.{each_first, each_last}
use Rattle.cert_core.proofs.Marks.{eight_places}
use Rattle.cert_core.proofs.Within.{eight_within}
use Rattle.cert_core.proofs.rows.is_within.Goals as goal

pub sums_into-requires-clause-values : goal.sums_into-requires-clause-values
sums_into-requires-clause-values c = each_first (λ x. x ≤ 2 ^ 63) _ c.split_at.result.0.now c.args.ways.now.old.now c.split_at.ensures.front (Each1-from_get_or (λ x. x ≤ 2 ^ 63) c.args.ways.now.old.now 0 c.args.ways.now.ways.old_small)

pub sums_into-requires-in-loop-i-clause-values : goal.sums_into-requires-in-loop-i-clause-values
sums_into-requires-in-loop-i-clause-values c = each_last (λ x. x ≤ 2 ^ 63) _ c.split_at.result.1.now c.args.ways.now.old.now c.split_at.ensures.back (Each1-from_get_or (λ x. x ≤ 2 ^ 63) c.args.ways.now.old.now 0 c.args.ways.now.ways.old_small)

pub sums_into-requires-clause-steps : goal.sums_into-requires-clause-steps
sums_into-requires-clause-steps c = Each1-from_get_or (λ x. x < 2 ^ 63) c.args.ways.now.lows.now 0 c.args.ways.now.ways.lows_small

pub sums_into-requires-in-loop-i-clause-steps : goal.sums_into-requires-in-loop-i-clause-steps
sums_into-requires-in-loop-i-clause-steps c = Each1-from_get_or (λ x. x < 2 ^ 63) c.args.ways.now.highs.now 0 c.args.ways.now.ways.highs_small

pub loop-i-preserved : goal.loop-i-preserved
loop-i-preserved c = λ k lt.
    let row = c.args.row.now in
    let first = lower c.args.ways.now.old.now c.args.ways.now.lows.now in
    let second = upper c.args.ways.now.old.now c.args.ways.now.highs.now in
    let j : ℕ = 2 * c.loop-i.i in
    let P = λ (q : ℕ). (get_or row q 0 ≤ get_or first q 0) × (get_or row q 0 ≤ get_or second q 0) in
    let low_front = rw c.split_at.ensures.front at c.sums_into.ensures.front in
    let low_back = rw c.split_at.ensures.front at c.sums_into.ensures.back in
    let high_front = rw c.split_at.ensures.back at c.sums_into-in-loop-i.ensures.front in
    let high_back = rw c.split_at.ensures.back at c.sums_into-in-loop-i.ensures.back in
    let row_front = at_chunk c.as_chunks.result.0.now row j c.as_chunks.ensures.front (omega arith) in
    let row_back = at_chunk c.as_chunks.result.0.now row (j + 1) c.as_chunks.ensures.front (omega arith) in
    let front = eight_within j first second row _ _ _ low_front high_front row_front (c.if-not-front.ensures.by_0 refl) (c.if-not-front.ensures.by_1 refl) in
    let back = eight_within (j + 1) first second row _ _ _ low_back high_back row_back (c.if-not-back.ensures.by_0 refl) (c.if-not-back.ensures.by_1 refl) in
    eight_places P (j + 1) (eight_places P j c.loop-i.invariant front) back k (omega arith)
