use Rattle.std.proofs.Common.{arith}
use Rattle.null_core.proofs.ByteLaws.{bits_alike}
use Rattle.null_core.proofs.compared.alike_bytes.Goals as goal

pub returns-then-bits-first-clause-alike : goal.returns-then-bits-first-clause-alike
returns-then-bits-first-clause-alike c = bits_alike c.args.bits.now c.args.others.now c.args.first c.args.own c.loop-k.k (λ j. omega (arith, c.type_inv.others j)) c.loop-k.invariant

pub returns-clause-alike : goal.returns-clause-alike
returns-clause-alike c = λ i lt.
    bits_alike c.args.bits.now c.args.others.now c.args.first c.args.own c.loop-k.k (λ j. omega (arith, c.type_inv.others j)) c.loop-k.invariant i (omega (arith, lt, c.loop-k-test.false))
