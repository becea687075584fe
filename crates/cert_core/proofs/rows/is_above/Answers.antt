use Rattle.std.proofs.Common.{◌+◌, ◌*◌, ◌/◌, ◌^◌, ◌<◌, ◌≤◌, below_more, refl, length, get_or, arith}
use Rattle.cert_core.proofs.ExitLaws.{true_or_false}
use Rattle.cert_core.proofs.Marks.{in_eight, in_rest, eight_places}
use Rattle.cert_core.proofs.rows.is_above.Goals as goal

pub returns-then-are_above-clause-above : goal.returns-then-are_above-clause-above
returns-then-are_above-clause-above c = λ _.
    let w = c.if-are_above.ensures.above refl in
    let i = c.loop-i.i in
    let row = c.args.row.now in
    let few : i < length row / 8 = omega (arith, c.loop-i-test.true, c.as_chunks.ensures.front_len) in
    (8 * i + w.0, omega (arith, w.1, few), omega (arith, w.2, in_eight c.as_chunks.result.0.now row i w.0 c.as_chunks.ensures.front few w.1))

pub loop-i-preserved : goal.loop-i-preserved
loop-i-preserved c =
    let i = c.loop-i.i in
    let row = c.args.row.now in
    let few : i < length row / 8 = omega (arith, c.loop-i-test.true, c.as_chunks.ensures.front_len) in
    eight_places (λ k. get_or row k 0 ≤ 2 ^ 63) i c.loop-i.invariant
    (λ m h. omega (arith, c.if-are_above.ensures.within refl m h, in_eight c.as_chunks.result.0.now row i m c.as_chunks.ensures.front few h))

pub loop-i-2-init : goal.loop-i-2-init
loop-i-2-init c = λ k h. c.loop-i.invariant k (omega (arith, h, c.loop-i-test.false, c.as_chunks.ensures.front_len))

pub loop-i-2-preserved : goal.loop-i-2-preserved
loop-i-2-preserved c =
    let i = c.loop-i-2.i in
    let row = c.args.row.now in
    let n = 8 * (length row / 8) in
    let here : get_or row (n + i) 0 ≤ 2 ^ 63 = omega (arith, c.if-rest-i-gt-GREATEST.false, in_rest c.as_chunks.result.1.now row i c.as_chunks.ensures.back) in
    λ k h. below_more (λ k. get_or row k 0 ≤ 2 ^ 63) (n + i) c.loop-i-2.invariant here k (omega (arith, h))

pub returns-clause-within : goal.returns-clause-within
returns-clause-within c = λ _ q h. c.loop-i-2.invariant q (omega (arith, h, c.loop-i-2-test.false, c.as_chunks.ensures.back_len))

pub returns-then-rest-i-gt-GREATEST-clause-above : goal.returns-then-rest-i-gt-GREATEST-clause-above
returns-then-rest-i-gt-GREATEST-clause-above c = λ _.
    let i = c.loop-i-2.i in
    let row = c.args.row.now in
    let n = 8 * (length row / 8) in
    (n + i, omega (arith, c.loop-i-2-test.true, c.as_chunks.ensures.back_len), omega (arith, c.if-rest-i-gt-GREATEST.true, in_rest c.as_chunks.result.1.now row i c.as_chunks.ensures.back))

pub returns-then-rest-i-gt-GREATEST-clause-within : goal.returns-then-rest-i-gt-GREATEST-clause-within
returns-then-rest-i-gt-GREATEST-clause-within c = true_or_false _ refl

pub returns-then-are_above-clause-within : goal.returns-then-are_above-clause-within
returns-then-are_above-clause-within c = true_or_false _ refl
