use Rattle.std.proofs.Common.{◌∙◌, ap, arith}
use Rattle.std.proofs.lemmas.List.{take_all}
use Rattle.heard_core.specs.Products.{dot}
use Rattle.heard_core.proofs.DotLaws.{next_sum, product_fits, sum_fits}
use Rattle.heard_core.proofs.products.sum_plainly.Goals as goal

pub overflow_mul-sum : goal.overflow_mul-sum
overflow_mul-sum c = product_fits c.args.taps.now c.args.errors.now c.loop-k.k _ c.requires.small_taps c.requires.small_errors (omega arith) c.requires.room c.loop-k.invariant

pub overflow_add-sum : goal.overflow_add-sum
overflow_add-sum c =
    sum_fits c.args.taps.now c.args.errors.now c.loop-k.k _ c.requires.small_taps c.requires.small_errors (omega arith) c.requires.room
    c.loop-k.invariant

pub loop-k-preserved : goal.loop-k-preserved
loop-k-preserved c =
    next_sum c.args.taps.now c.args.errors.now c.loop-k.k _ c.requires.small_taps c.requires.small_errors (omega arith) c.requires.room
    c.loop-k.invariant

pub returns : goal.returns
returns c = c.loop-k.invariant ∙ ap (λ xs. dot xs c.args.errors.now) (take_all c.loop-k.k c.args.taps.now (omega arith))
