use Rattle.std.proofs.Common.{◌≡◌, take}
use Rattle.heard_core.specs.Products.{dot}
use Rattle.heard_core.proofs.products.sum_plainly.Given as goal

abbrev pub invariant-loop-k : goal.invariant-loop-k
invariant-loop-k l = l.sum ≡ dot (take l.k l.taps) l.errors
