use Rattle.std.proofs.Common.{◌≡◌, ◌-ℤ◌, unsigned_abs, ap, ◌∙◌, arith}
use Rattle.std.proofs.lemmas.Int.{ints}
use Rattle.cost_core.proofs.SumLaws.{abs_sub}
use Rattle.cost_core.proofs.Squares.{squared_bound, squared_fits, squared_is}
use Rattle.cost_core.proofs.sums.squared_difference.Goals as goal
use Rattle.cost_core.proofs.sums.squared_difference.Goals.{After-from-difference}

difference_is : (c : After-from-difference) → c.from-difference.result ≡ c.args.sum -ℤ c.args.other
difference_is c = c.from-difference.ensures ∙ omega (arith, ints, abs_sub c.args.sum c.args.other, c.requires.sum, c.requires.other)

pub overflow_cast-result : goal.overflow_cast-result
overflow_cast-result c =
    let is = difference_is (goal.at.overflow_cast-result c).After-from-difference in
    let bound = squared_bound c.args.sum c.args.other c.from-difference.result c.requires.sum c.requires.other is in
    rw (squared_is c.args.sum c.args.other c.from-difference.result c.requires.sum c.requires.other is) (tt, record { fits = omega (arith, bound) })

pub returns : goal.returns
returns c =
    let is = difference_is (goal.at.returns c).After-from-difference in
    record {
      value = ap unsigned_abs (squared_is c.args.sum c.args.other c.from-difference.result c.requires.sum c.requires.other is);
      bound = let bound = squared_bound c.args.sum c.args.other c.from-difference.result c.requires.sum c.requires.other is in
          omega (arith, ap unsigned_abs (squared_is c.args.sum c.args.other c.from-difference.result c.requires.sum c.requires.other is), bound);
    }

pub overflow_mul-result : goal.overflow_mul-result
overflow_mul-result c = squared_fits c.args.sum c.args.other c.from-difference.result c.requires.sum c.requires.other (difference_is (goal.at.overflow_mul-result c).After-from-difference)
