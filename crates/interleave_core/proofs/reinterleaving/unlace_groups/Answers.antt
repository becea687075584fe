use Rattle.std.proofs.Common.{length, ap, ◌∙◌}
use Rattle.std.proofs.lemmas.List.FromFn.{length-map-range_with_len}
use Rattle.dsd_bits.specs.Blocks.{unblocked}
use Rattle.interleave_core.proofs.reinterleaving.unlace_groups.Goals as goal

pub returns-in-Ok-clause-number : goal.returns-in-Ok-clause-number
returns-in-Ok-clause-number c =
    ap length c.in-Ok.ensures.ok ∙ length-map-range_with_len (unblocked c.args.order c.args.bytes.now c.args.stretch.channels c.args.stretch.count) 0 c.args.stretch.channels
