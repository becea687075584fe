use Rattle.std.proofs.Common.{◌≡◌, ◌≤◌, ◌+◌, ◌*◌, ◌+ℤ◌, ◌*ℤ◌, pos, unsigned_abs, arith, to_z, of_z, w32}
use Rattle.std.proofs.lemmas.Int.{ints, unsigned_abs-mul}
use Rattle.std.proofs.lemmas.Nat.{mul-le}
use Rattle.cost_core.proofs.SumLaws.{kept, part_fits, small_fits}
use Rattle.cost_core.proofs.sums.scale.Goals as goal
use Rattle.cost_core.proofs.sums.scale.Goals.{Start}

product_in : (c : Start) → unsigned_abs (pos (c.args.levels + 1) *ℤ c.args.sum) ≤ (c.args.levels + 1) * 4096
product_in c = rw (unsigned_abs-mul (pos (c.args.levels + 1)) c.args.sum) (mul-le (c.args.levels + 1) (unsigned_abs c.args.sum) (c.args.levels + 1) 4096 (omega arith) c.requires.sum)

value_is : (c : Start) → to_z w32 (of_z w32 (to_z w32 (of_z w32 (to_z w32 c.args.levels +ℤ pos 1)) *ℤ to_z w32 (of_z w32 c.args.sum))) ≡ pos (c.args.levels + 1) *ℤ c.args.sum
value_is c =
    let ea : to_z w32 (of_z w32 (to_z w32 c.args.levels +ℤ pos 1)) ≡ pos (c.args.levels + 1) = omega (arith, ints, c.requires.levels) in
    rw (ea, kept c.args.sum (omega (arith, c.requires.sum))) (kept (pos (c.args.levels + 1) *ℤ c.args.sum) (omega (arith, product_in c, c.requires.levels)))

pub returns : goal.returns
returns c = record {
  value = value_is (goal.at.returns c).Start;
  bound = let s = (goal.at.returns c).Start in rw (value_is s) (product_in s);
}

pub overflow_cast-result : goal.overflow_cast-result
overflow_cast-result c = small_fits c.args.levels (omega (arith, c.requires.levels))

pub overflow_add-result : goal.overflow_add-result
overflow_add-result c =
    let e : to_z w32 c.args.levels +ℤ pos 1 ≡ pos (c.args.levels + 1) = omega (arith, ints, c.requires.levels) in
    rw e (small_fits (c.args.levels + 1) (omega (arith, c.requires.levels)))

pub overflow_mul-result : goal.overflow_mul-result
overflow_mul-result c =
    let e : to_z w32 (of_z w32 (to_z w32 c.args.levels +ℤ pos 1)) ≡ to_z w32 (c.args.levels + 1) = omega (arith, ints, c.requires.levels) in
    rw e (part_fits (c.args.levels + 1) c.args.sum (omega (arith, c.requires.levels)) c.requires.sum)
