use Rattle.std.proofs.Common.{◌+◌, ◌*◌, ◌^◌, ◌<◌, arith, rules}
use Rattle.std.proofs.lemmas.Int.{ints}
use Rattle.dsdiff_core.proofs.PlaceLemmas.{few_samples, widened_sum}
use Rattle.dsdiff_core.proofs.places.place.Goals as goal

few : (c : goal.After-result-1) → ((c.args.mark.now.hours * 60 + c.args.mark.now.minutes) * 60 + c.args.mark.now.seconds) * c.args.rate < 2 ^ 61
few c = few_samples c.args.mark.now.hours c.args.mark.now.minutes c.args.mark.now.seconds c.args.rate (omega arith) (omega arith) (omega arith) (omega arith)

pub overflow_mul-samples : goal.overflow_mul-samples
overflow_mul-samples c = omega (arith, few_samples c.args.mark.now.hours c.args.mark.now.minutes c.args.mark.now.seconds c.args.rate (omega arith) (omega arith) (omega arith) (omega arith))

pub overflow_add-samples : goal.overflow_add-samples
overflow_add-samples c = omega (arith, few_samples c.args.mark.now.hours c.args.mark.now.minutes c.args.mark.now.seconds c.args.rate (omega arith) (omega arith) (omega arith) (omega arith))

pub overflow_cast-result : goal.overflow_cast-result
overflow_cast-result c = omega (arith, ints, few_samples c.args.mark.now.hours c.args.mark.now.minutes c.args.mark.now.seconds c.args.rate (omega arith) (omega arith) (omega arith) (omega arith))

pub overflow_add-result : goal.overflow_add-result
overflow_add-result c = omega (arith, ints, few c)

pub returns : goal.returns
returns c = widened_sum _ c.args.mark.now.offset (omega (arith, few c)) (search rules)
