use Rattle.std.proofs.Common.{arith}
use Rattle.dsd_bits.proofs.PackingLemmas.{length-unpacked, unpacked_is, IsTight-from_holds}
use Rattle.dsd_bits.proofs.bits.Bits.from_first_bits.Goals as goal

pub invariant_of-result : goal.invariant_of-result
invariant_of-result c =
    let size = c.clear_from.new.bytes.ok.0 in
    let same = c.clear_from.ensures.len in
    let fits = c.requires.size in
    IsTight-from_holds _ c.args.count _ c.clear_from.ensures.holds (length-unpacked _ _) (omega arith) (omega arith) c.requires.in_limit

pub returns : goal.returns
returns c = unpacked_is _ c.args.count _ c.clear_from.ensures.holds (length-unpacked _ _)
