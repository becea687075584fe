use Rattle.std.proofs.Common.{◌≡◌, ◌≢◌, ◌∙◌, ◌<◌, ◌≤◌, ◌^◌, ℤ, ◌+ℤ◌, FitsSigned, ap, ap₂, arith, below_more, get_or, get_or-set_other, get_or-set_same, length, of_z, pos, subst, sym, to_z, unsigned_abs, w32}
use Rattle.std.proofs.Math.ListN.{length-set}
use Rattle.std.proofs.lemmas.Int.{fits_signed_from_abs, to_z-of_z}
use Rattle.dsd_bits.proofs.SumLaws.{abs_add}
use Rattle.heard_core.proofs.sums.add_all.Goals as goal

-- the sum of two numbers fits
module _ (x y : ℤ) (small : unsigned_abs x ≤ 2 ^ 28) (less : unsigned_abs y ≤ 2 ^ 30) where
  both_fit : FitsSigned w32 (x +ℤ y)
  both_fit = fits_signed_from_abs w32 (x +ℤ y) (omega (arith, abs_add x y))

  sum_is : to_z w32 (of_z w32 x) +ℤ to_z w32 (of_z w32 y) ≡ x +ℤ y
  sum_is = ap₂ ◌+ℤ◌ (to_z-of_z w32 x (fits_signed_from_abs w32 x (omega arith))) (to_z-of_z w32 y (fits_signed_from_abs w32 y (omega arith)))

  sum_fits : FitsSigned w32 (to_z w32 (of_z w32 x) +ℤ to_z w32 (of_z w32 y))
  sum_fits = subst (FitsSigned w32) (sym sum_is) both_fit

  stored : to_z w32 (of_z w32 (to_z w32 (of_z w32 x) +ℤ to_z w32 (of_z w32 y))) ≡ x +ℤ y
  stored = ap (λ z. to_z w32 (of_z w32 z)) sum_is ∙ to_z-of_z w32 (x +ℤ y) both_fit

-- so is a number that is as it was
still_small : (x old : ℤ) → x ≡ old → unsigned_abs old ≤ 2 ^ 28 → unsigned_abs x ≤ 2 ^ 28
still_small x old is small = subst (λ (z : ℤ). unsigned_abs z ≤ 2 ^ 28) (sym is) small

pub overflow_add-sum : goal.overflow_add-sum
overflow_add-sum c =
    let i = c.loop-i.i in
    let x = get_or c.loop-i.sums i (pos 0) in
    let old = get_or c.args.sums.now i (pos 0) in
    let kept = c.loop-i.invariant.rest i (omega arith) (omega (arith, c.loop-i.auto.sums, c.loop-i-test.true)) in
    sum_fits x (get_or c.args.more.now i (pos 0)) (still_small x old kept (c.requires.small i c.loop-i-test.true)) (c.requires.less i (omega (arith, c.requires.long, c.loop-i-test.true)))

pub loop-i-preserved : goal.loop-i-preserved
loop-i-preserved c =
    let i = c.loop-i.i in
    let xs = c.loop-i.sums in
    let x = get_or xs i (pos 0) in
    let y = get_or c.args.more.now i (pos 0) in
    let old = get_or c.args.sums.now i (pos 0) in
    let inside : i < length xs = omega (arith, c.loop-i.auto.sums, c.loop-i-test.true) in
    let kept = c.loop-i.invariant.rest i (omega arith) inside in
    let sum = stored x y (still_small x old kept (c.requires.small i c.loop-i-test.true)) (c.requires.less i (omega (arith, c.requires.long, c.loop-i-test.true))) in
    record {
      done = below_more _ _
          (λ k h. let ne : k ≢ i = omega arith in rw get_or-set_other (c.loop-i.invariant.done k h))
          (rw get_or-set_same (sum ∙ ap (λ z. z +ℤ y) kept));
      rest = λ k h within. let ne : k ≢ i = omega arith in rw get_or-set_other (c.loop-i.invariant.rest k (omega arith) (omega (arith, within, length-set xs i)));
    }
