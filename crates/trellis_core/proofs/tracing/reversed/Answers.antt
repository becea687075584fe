use Rattle.std.proofs.Common.{◌≡◌, ℕ, suc, ◌+◌, ◌-◌, ◌<◌, ◌∙◌, Bool, false, List, [], ◌∷◌, ◌++◌, ap, arith, drop, get_or, length, length-append, reverse, sym}
use Rattle.std.proofs.Math.Seq.{drop-cons}
use Rattle.std.proofs.lemmas.List.{drop_all, reverse-append}
use Rattle.trellis_core.proofs.tracing.reversed.Goals as goal

-- one bit more of those from the last on
one_more : (xs bits : List Bool) (i : ℕ) → i < length xs → bits ≡ reverse (drop (length xs - i) xs) → bits ++ get_or xs (length xs - 1 - i) false ∷ [] ≡ reverse (drop (length xs - (i + 1)) xs)
one_more xs bits i h is =
    let k = length xs - (i + 1) in
    let low : k < length xs = omega (arith, h) in
    let place : length xs - 1 - i ≡ k = omega arith in
    let next : suc k ≡ length xs - i = omega (arith, h) in
    (λ j. is j ++ get_or xs (place j) false ∷ []) ∙ sym (ap reverse (drop-cons xs k false low ∙ ap (λ m. get_or xs k false ∷ drop m xs) next) ∙ reverse-append (get_or xs k false ∷ []) (drop (length xs - i) xs))

pub loop-i-init : goal.loop-i-init
loop-i-init c =
    let all = c.args.newest_first.now in
    record { count = ap length c.new-bits.ensures; bits = c.new-bits.ensures ∙ sym (ap reverse (drop_all (length all - 0) all (omega arith))) }

pub loop-i-preserved : goal.loop-i-preserved
loop-i-preserved c =
    let all = c.args.newest_first.now in
    let is = c.in_ok-push_bit.ensures.ok in
    record {
      count = omega (arith, ap length is, length-append c.loop-i.bits (get_or all (length all - 1 - c.loop-i.i) false ∷ []), c.loop-i.invariant.count);
      bits = is ∙ one_more all c.loop-i.bits c.loop-i.i c.loop-i-test.true c.loop-i.invariant.bits;
    }
