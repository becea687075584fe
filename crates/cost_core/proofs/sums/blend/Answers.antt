use Rattle.std.proofs.Common.{◌*ℤ◌, pos, arith}
use Rattle.std.proofs.lemmas.Int.{ints}
use Rattle.cost_core.proofs.SumLaws.{kept, part_fits, part_in, part_kept, small_fits}
use Rattle.dsd_bits.proofs.SumLaws.{abs_add}
use Rattle.cost_core.proofs.sums.blend.Goals as goal

pub overflow_add-result : goal.overflow_add-result
overflow_add-result c =
    let n = c.requires.parts in
    rw (part_kept c.args.before c.args.first (omega arith) c.requires.first, part_kept c.args.after c.args.last (omega arith) c.requires.last)
    (omega (arith, ints, abs_add (pos c.args.before *ℤ c.args.first) (pos c.args.after *ℤ c.args.last), part_in c.args.before c.args.first c.requires.first, part_in c.args.after c.args.last c.requires.last, n))

pub returns : goal.returns
returns c =
    let n = c.requires.parts in
    rw (part_kept c.args.before c.args.first (omega arith) c.requires.first, part_kept c.args.after c.args.last (omega arith) c.requires.last)
    (kept _ (omega (arith, abs_add (pos c.args.before *ℤ c.args.first) (pos c.args.after *ℤ c.args.last), part_in c.args.before c.args.first c.requires.first, part_in c.args.after c.args.last c.requires.last, n)))

pub overflow_cast-result : goal.overflow_cast-result
overflow_cast-result c = small_fits c.args.before (omega (arith, c.requires.parts))

pub overflow_cast-result-2 : goal.overflow_cast-result-2
overflow_cast-result-2 c = small_fits c.args.after (omega (arith, c.requires.parts))

pub overflow_mul-result : goal.overflow_mul-result
overflow_mul-result c = part_fits c.args.before c.args.first (omega (arith, c.requires.parts)) c.requires.first

pub overflow_mul-result-2 : goal.overflow_mul-result-2
overflow_mul-result-2 c = part_fits c.args.after c.args.last (omega (arith, c.requires.parts)) c.requires.last
