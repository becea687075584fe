use Rattle.std.proofs.Common.{ap, arith, unsigned_abs, w64}
use Rattle.std.proofs.lemmas.Int.{to_z-of_z}
use Rattle.null_core.proofs.SmallLaws.{total_small}
use Rattle.null_core.proofs.mixed.tap_sum.Goals as goal

pub total-requires : goal.total-requires
total-requires c = c.requires.fit.small_sum

pub returns-clause-bound : goal.returns-clause-bound
returns-clause-bound c = omega (arith, c.unsigned_abs.ensures.value, ap unsigned_abs (to_z-of_z w64 c.total.result (record { sfits = c.total.type_inv })), ap unsigned_abs c.total.ensures, total_small c.args.taps.now, c.requires.fit.small_sum)
