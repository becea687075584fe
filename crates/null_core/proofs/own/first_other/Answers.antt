use Rattle.null_core.specs.Parts.{part_content}
use Rattle.null_core.proofs.OwnLaws.{alike_to_other}
use Rattle.null_core.proofs.own.first_other.Goals as goal

pub returns : goal.returns
returns c =
    alike_to_other c.args.bits.now (part_content c.args.part.now) c.args.m c.own_bit-own.result c.requires.begun c.own_bit-own.ensures.value c.args.end c.alike.result c.requires.in_order c.alike.ensures.few c.alike.ensures.alike c.alike.ensures.other
