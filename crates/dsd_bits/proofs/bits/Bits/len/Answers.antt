use Rattle.std.proofs.Common.{length, sym, ap, ◌∙◌, arith}
use Rattle.dsd_bits.proofs.PackingLemmas.{length-unpacked}
use Rattle.dsd_bits.proofs.bits.Bits.len.Goals as goal

pub returns : goal.returns
returns c =
    let n = ap length (sym c.self.view_is) ∙ length-unpacked c.self.inside.bytes.items c.self.inside.count in
    record { value = sym n; in_limit = omega (arith, c.self.invariant.in_limit) }
