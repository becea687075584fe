use Rattle.std.proofs.Common.{◌∙◌, arith}
use Rattle.dsd_bits.proofs.PackingLemmas.{unpacked-take}
use Rattle.dsd_bits.proofs.bits.Bits.from_packed.Goals as goal

pub returns-clause-ok : goal.returns-clause-ok
returns-clause-ok c =
    c.from_first_bits.ensures ∙ rw c.in_ok-kept.ensures.items (unpacked-take c.args.bytes.now c.div_ceil-size.result c.args.count (omega arith))
