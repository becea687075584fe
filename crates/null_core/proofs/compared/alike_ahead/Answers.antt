use Rattle.std.proofs.Common.{◌-◌, ◌%◌, arith, refl}
use Rattle.null_core.proofs.ByteLaws.{lists_alike}
use Rattle.null_core.proofs.compared.alike_ahead.Goals as goal

pub returns-clause-alike : goal.returns-clause-alike
returns-clause-alike c =
    let head = (8 - c.args.at % 8) % 8 in
    lists_alike c.args.bits.now c.args.others.now c.as_bytes-left.result.now c.as_bytes-right.result.now c.args.at c.args.own head c.alike_bytes-bytes.result c.as_bytes-left.ensures.bits c.as_bytes-right.ensures.bits
    (omega arith) (omega (arith, c.requires.bits, c.alike_bytes-bytes.ensures.few, c.if-most-head.false)) (omega (arith, c.requires.others, c.alike_bytes-bytes.ensures.few, c.if-most-head.false))
    (c.if-not-are_alike.ensures refl) c.alike_bytes-bytes.ensures.alike
