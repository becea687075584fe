use Rattle.std.proofs.Common.{◌+◌, ◌*◌, ◌/◌, ◌<◌, ◌≤◌, ◌≡◌, ◌∙◌, ap, below_more, refl, length, get_or, arith}
use Rattle.std.proofs.lemmas.Simd.{Each1-get_or}
use Rattle.cost_core.proofs.Chunks.{each_chunk}
use Rattle.cert_core.proofs.ExitLaws.{true_or_false}
use Rattle.cert_core.proofs.Marks.{in_eight, in_rest, eight_places}
use Rattle.cert_core.proofs.rows.all_reach.Goals as goal

pub reach_stated-requires-clause-last : goal.reach_stated-requires-clause-last
reach_stated-requires-clause-last c = each_chunk (λ x. x ≤ 9223372036854775808) c.as_chunks.result.0.now c.args.last.now c.loop-i.i c.as_chunks.ensures.front (omega (arith, c.loop-i-test.true, c.as_chunks.ensures.front_len)) c.requires.last

pub reach_stated-requires-clause-tails : goal.reach_stated-requires-clause-tails
reach_stated-requires-clause-tails c =
    each_chunk (λ x. x < 9223372036854775808) c.as_chunks-2.result.0.now c.args.tails.now c.loop-i.i c.as_chunks-2.ensures.front (omega (arith, c.loop-i-test.true, c.as_chunks.ensures.front_len, c.requires.as_many)) c.requires.tails

pub loop-i-preserved : goal.loop-i-preserved
loop-i-preserved c =
    let i = c.loop-i.i in
    let last = c.args.last.now in
    let tails = c.args.tails.now in
    let few : i < length last / 8 = omega (arith, c.loop-i-test.true, c.as_chunks.ensures.front_len) in
    let few_tails : i < length tails / 8 = omega (arith, few, c.requires.as_many) in
    eight_places (λ k. c.args.stated ≤ get_or last k 0 + get_or tails k 0) i c.loop-i.invariant
    (λ m h. omega (arith, c.if-not-reach_stated.ensures refl m h, in_eight c.as_chunks.result.0.now last i m c.as_chunks.ensures.front few h, in_eight c.as_chunks-2.result.0.now tails i m c.as_chunks-2.ensures.front few_tails h))

pub loop-i-2-init : goal.loop-i-2-init
loop-i-2-init c = λ k h. c.loop-i.invariant k (omega (arith, h, c.loop-i-test.false, c.as_chunks.ensures.front_len))

pub loop-i-2-preserved : goal.loop-i-2-preserved
loop-i-2-preserved c =
    let i = c.loop-i-2.i in
    let last = c.args.last.now in
    let tails = c.args.tails.now in
    let n = 8 * (length last / 8) in
    let tail : get_or c.as_chunks-2.result.1.now i 0 ≡ get_or tails (n + i) 0 = in_rest c.as_chunks-2.result.1.now tails i c.as_chunks-2.ensures.back ∙ ap (λ m. get_or tails (8 * (m / 8) + i) 0) c.requires.as_many in
    let here : c.args.stated ≤ get_or last (n + i) 0 + get_or tails (n + i) 0 = omega (arith, c.if-rest-i.false, in_rest c.as_chunks.result.1.now last i c.as_chunks.ensures.back, tail) in
    λ k h. below_more (λ k. c.args.stated ≤ get_or last k 0 + get_or tails k 0) (n + i) c.loop-i-2.invariant here k (omega (arith, h))

pub returns : goal.returns
returns c = λ _ q h. c.loop-i-2.invariant q (omega (arith, h, c.loop-i-2-test.false, c.as_chunks.ensures.back_len))

pub overflow_add-rest : goal.overflow_add-rest
overflow_add-rest c =
    let i = c.loop-i-2.i in
    let last = c.args.last.now in
    let tails = c.args.tails.now in
    let n = 8 * (length last / 8) + i in
    let tail : get_or c.as_chunks-2.result.1.now i 0 ≡ get_or tails n 0 = in_rest c.as_chunks-2.result.1.now tails i c.as_chunks-2.ensures.back ∙ ap (λ m. get_or tails (8 * (m / 8) + i) 0) c.requires.as_many in
    let inside : n < length last = omega (arith, c.loop-i-2-test.true, c.as_chunks.ensures.back_len) in
    let high = Each1-get_or (λ x. x ≤ 9223372036854775808) last n 0 inside c.requires.last in
    let more = Each1-get_or (λ x. x < 9223372036854775808) tails n 0 (omega (arith, inside, c.requires.as_many)) c.requires.tails in
    record { fits = omega (arith, high, more, in_rest c.as_chunks.result.1.now last i c.as_chunks.ensures.back, tail) }

pub returns-then-not-reach_stated : goal.returns-then-not-reach_stated
returns-then-not-reach_stated c = λ h. true_or_false _ h refl

pub returns-then-rest-i : goal.returns-then-rest-i
returns-then-rest-i c = λ h. true_or_false _ h refl
