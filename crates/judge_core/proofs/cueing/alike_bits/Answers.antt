use Rattle.std.proofs.Common.{arith}
use Rattle.judge_core.proofs.CompareLaws.{packed_small, same_eights}
use Rattle.judge_core.proofs.cueing.alike_bits.Goals as goal

pub returns-clause-alike : goal.returns-clause-alike
returns-clause-alike c =
    same_eights c.args.part.now c.args.cue.now c.as_bytes.result.now c.as_bytes-2.result.now c.args.at c.args.own c.alike_eights.result c.as_bytes.ensures.bits c.as_bytes-2.ensures.bits
    (packed_small c.args.part.now c.as_bytes.result.now c.as_bytes.ensures.packed) (packed_small c.args.cue.now c.as_bytes-2.result.now c.as_bytes-2.ensures.packed)
    (omega (arith, c.requires.part, c.alike_eights.ensures.few)) (omega (arith, c.requires.cue, c.alike_eights.ensures.few)) c.alike_eights.ensures.alike
