use Rattle.std.proofs.Common.{◌≡◌, ℕ, ◌+◌, ◌<◌, ℤ, pos, FitsSigned, unsigned_abs, w64, to_z, of_z, length, get_or, ap, sym, subst, ◌∙◌, arith, rules}
use Rattle.std.specs.Cmp.{IsStrictWeakOrder}
use Rattle.std.specs.List.{IsFirstBest}
use Rattle.std.proofs.lemmas.Bool.{le-ltb, lt-ltb}
use Rattle.std.proofs.lemmas.Int.{to_z-of_z}
use Rattle.std.proofs.lemmas.List.{get_or_default}
use Rattle.std.proofs.lemmas.List.MinMax.{IsFirstBest-keeps, IsFirstBest-none, IsFirstBest-takes, IsStrictWeakOrder-by_number, IsStrictWeakOrder-flip}
use Rattle.null_core.specs.Chunks.{is_louder}
use Rattle.null_core.proofs.peak.loudest.Goals as goal
use Rattle.null_core.proofs.peak.loudest.Goals.{then-unsigned_abs, else-unsigned_abs}

order : IsStrictWeakOrder is_louder
order = IsStrictWeakOrder-flip _ (IsStrictWeakOrder-by_number unsigned_abs)

abs_of : (z : ℤ) (r : ℕ) → FitsSigned w64 z → r ≡ unsigned_abs (to_z w64 (of_z w64 z)) → r ≡ unsigned_abs z
abs_of z r fits is = is ∙ ap unsigned_abs (to_z-of_z w64 z fits)

pub loop-i-init : goal.loop-i-init
loop-i-init c = IsFirstBest-none order c.args.sums.now

pub loop-i-preserved : goal.loop-i-preserved
loop-i-preserved c =
    let sums = c.args.sums.now in
    let i = c.loop-i.i in
    let best = c.loop-i.best in
    let there : best < length sums = omega (arith, c.loop-i.invariant.0, c.loop-i-test.true) in
    let fits : FitsSigned w64 (get_or sums i (pos 0)) = search rules in
    let fits' : FitsSigned w64 (get_or sums best (pos 0)) = search rules in
    let new = abs_of (get_or sums i (pos 0)) c.unsigned_abs.result fits c.unsigned_abs.ensures.value in
    let old = abs_of (get_or sums best (pos 0)) c.unsigned_abs-in-loop-i.result fits' c.unsigned_abs-in-loop-i.ensures.value in
    let x = get_or_default sums i (pos 0) (get_or sums i (pos 0)) c.loop-i-test.true in
    let y = get_or_default sums best (pos 0) (get_or sums best (pos 0)) there in
    elim c.if-unsigned_abs.branch [
      | then-unsigned_abs w ↦ subst (IsFirstBest is_louder sums (i + 1)) (sym w.best-is) (IsFirstBest-takes order sums i best (get_or sums i (pos 0)) (get_or sums best (pos 0)) c.loop-i.invariant c.loop-i-test.true x y (lt-ltb _ _ (omega (arith, new, old, w.if-unsigned_abs.true))))
      | else-unsigned_abs w ↦ subst (IsFirstBest is_louder sums (i + 1)) (sym w.best-is) (IsFirstBest-keeps order sums i best (get_or sums i (pos 0)) (get_or sums best (pos 0)) c.loop-i.invariant c.loop-i-test.true x y (le-ltb _ _ (omega (arith, new, old, w.if-unsigned_abs.false))))
    ]
