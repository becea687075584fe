use Rattle.std.proofs.Common.{List, ap, arith, length, refl, subst, sym, ℕ}
use Rattle.dsdarc_c.specs.Pushing.{IsHeaderSoFar}
use Rattle.dsdarc_c.proofs.HeaderLaws.{before_first}
use Rattle.dsdarc_c.proofs.pushing.Pushing.new.Goals as goal

pub returns-clause-keeps : goal.returns-clause-keeps
returns-clause-keeps c = record {
  pulled = omega arith;
  stated = tt;
  known = refl;
  stage = subst (λ xs. IsHeaderSoFar xs 0 16) (sym c.new.ensures.items) before_first;
  whole = ap (λ (xs : List ℕ). length xs) c.new-2.ensures.items;
}
