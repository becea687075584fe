use Rattle.std.proofs.Common.{◌∙◌, take, drop, ap, arith}
use Rattle.dsd_bits.specs.Blocks.{ordered}
use Rattle.dsd_bits.proofs.BlockLemmas.{tail_changed}
use Rattle.dsd_bits.proofs.blocks.push_in_order.Goals as goal

pub returns : goal.returns
returns c =
    let old = c.args.out.now in
    let all = c.extend_from_slice.new.self in
    tail_changed all.items old.items c.args.bytes.now _ _ c.put_in_order.new.bytes _ (ordered c.args.order) _ _ c.in_ok-extend_from_slice.ensures.items (omega (arith, c.len-kept.ensures, old.ok.0)) (c.split_at_mut-added.ensures.front ∙ ap (take _) c.as_mut_slice.ensures.value) (c.split_at_mut-added.ensures.back ∙ ap (drop _) c.as_mut_slice.ensures.value) c.put_in_order.ensures (omega (arith, all.ok.0))
