use Rattle.std.proofs.Common.{arith, refl, subst, sym}
use Rattle.dsdarc_c.specs.Pushing.{IsHeaderSoFar}
use Rattle.dsdarc_c.proofs.HeaderLaws.{before_first}
use Rattle.dsdarc_c.proofs.bare.Bare.new.Goals as goal

pub returns-clause-keeps : goal.returns-clause-keeps
returns-clause-keeps c = record {
  pulled = omega arith;
  stated = tt;
  known = refl;
  stage = subst (λ xs. IsHeaderSoFar xs 0 16) (sym c.new.ensures.items) before_first;
  none = c.new-2.ensures.items;
}
