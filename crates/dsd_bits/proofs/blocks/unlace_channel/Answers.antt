use Rattle.std.proofs.Common.{◌≡◌, ◌+◌, ◌*◌, ◌≤◌, min, take, drop, length, map, length-drop, sym, ap, ◌∙◌, arith}
use Rattle.std.specs.Int.{div_ceil}
use Rattle.std.proofs.lemmas.List.{length-map, map-append}
use Rattle.std.proofs.lemmas.Result.{IfOk-from_err}
use Rattle.std.proofs.lemmas.List.FromFn.{length-map-range_with_len}
use Rattle.dsd_bits.specs.Packing.{unpacked}
use Rattle.dsd_bits.specs.Blocks.{ordered}
use Rattle.dsd_bits.proofs.BlockLemmas.{block_inside, block_source, own_blocks, own_blocks_more, unblocked_is}
use Rattle.dsd_bits.proofs.blocks.unlace_channel.Goals as goal
use Rattle.dsd_bits.proofs.blocks.unlace_channel.Goals.{In-loop-group, After-loop-group}

-- what the calls in the loop need
place : (c : In-loop-group) → (c.loop-group.group * c.args.channels + c.args.c) * 4096 + 0 ≤ length c.args.bytes.now
place c = block_inside c.args.channels c.args.c c.args.count c.loop-group.group 0 (length c.args.bytes.now) c.requires.channel.0 (omega arith) (omega arith) c.requires.enough

pub overflow_mul-group : goal.overflow_mul-group
overflow_mul-group c = omega (arith, place c)

pub overflow_add-group : goal.overflow_add-group
overflow_add-group c = omega (arith, place c)

pub overflow_mul-group-in-loop-group : goal.overflow_mul-group-in-loop-group
overflow_mul-group-in-loop-group c = omega (arith, place c)

pub split_at-requires : goal.split_at-requires
split_at-requires c = omega (arith, place c)

pub overflow_mul-group-in-loop-group-2 : goal.overflow_mul-group-in-loop-group-2
overflow_mul-group-in-loop-group-2 c = omega (arith, c.div_ceil-group-end.ensures, c.loop-group-test.true)

pub overflow_sub-size : goal.overflow_sub-size
overflow_sub-size c = omega (arith, c.div_ceil-size.ensures, c.div_ceil-group-end.ensures, c.loop-group-test.true)

pub split_at-requires-in-loop-group : goal.split_at-requires-in-loop-group
split_at-requires-in-loop-group c =
    let at = (c.loop-group.group * c.args.channels + c.args.c) * 4096 in
    omega (arith, ap length c.split_at.ensures.back, length-drop at c.args.bytes.now, block_inside c.args.channels c.args.c c.args.count c.loop-group.group c.min.result (length c.args.bytes.now) c.requires.channel.0 (omega arith) (omega arith) c.requires.enough)

pub loop-group-preserved : goal.loop-group-preserved
loop-group-preserved c =
    let bytes = c.args.bytes.now in
    let group = c.loop-group.group in
    let order = c.args.order in
    let at = (group * c.args.channels + c.args.c) * 4096 in
    let own = own_blocks bytes c.args.channels c.args.c in
    let before : min (4096 * group) c.div_ceil-size.result ≡ 4096 * group = omega arith in
    let after : 4096 * group + c.min.result ≡ min (4096 * (group + 1)) c.div_ceil-size.result = omega arith in
    let more = own_blocks_more bytes c.args.channels c.args.c group c.min.result (omega arith) (block_inside c.args.channels c.args.c c.args.count group c.min.result (length bytes) c.requires.channel.0 (omega arith) (omega arith) c.requires.enough) in
    let used = c.split_at-in-loop-group.ensures.front ∙ ap (take c.min.result) c.split_at.ensures.back in
    let joined = map-append (ordered order) (own (4096 * group)) (take c.min.result (drop at bytes)) in
    rw (c.in_ok-push_in_order.ensures, c.loop-group.invariant, before, used) (sym joined ∙ ap (map (ordered order)) (more ∙ ap own after))

made : (c : After-loop-group) → c.loop-group.own.items ≡ map (ordered c.args.order) (own_blocks c.args.bytes.now c.args.channels c.args.c (div_ceil c.args.count 8))
made c =
    let at_end : min (4096 * c.loop-group.group) c.div_ceil-size.result ≡ div_ceil c.args.count 8 = omega arith in
    c.loop-group.invariant ∙ ap (λ k. map (ordered c.args.order) (own_blocks c.args.bytes.now c.args.channels c.args.c k)) at_end

len : (c : After-loop-group) → c.loop-group.own.len ≡ div_ceil c.args.count 8
len c =
    let size = ap length (made c) ∙ length-map (own_blocks c.args.bytes.now c.args.channels c.args.c (div_ceil c.args.count 8)) (ordered c.args.order) ∙ length-map-range_with_len (block_source c.args.bytes.now c.args.channels c.args.c) 0 (div_ceil c.args.count 8) in
    omega (arith, size, c.loop-group.own.ok.0)

pub from_first_bits-requires : goal.from_first_bits-requires
from_first_bits-requires c = record {
  in_limit = c.requires.in_limit;
  size = len (goal.at.from_first_bits-requires c).After-loop-group;
}

pub returns : goal.returns
returns c =
    let w = (goal.at.returns c).After-loop-group in
    c.from_first_bits.ensures ∙ ap (λ bs. unpacked bs c.args.count) (made w) ∙ unblocked_is c.args.order c.args.bytes.now c.args.channels c.args.c c.args.count

pub returns-in_err-own : goal.returns-in_err-own
returns-in_err-own c = IfOk-from_err c.from_residual.result _ c.from_residual.ensures.0

pub returns-in_err-push_in_order : goal.returns-in_err-push_in_order
returns-in_err-push_in_order c = IfOk-from_err c.from_residual-in_err-push_in_order.result _ c.from_residual-in_err-push_in_order.ensures.0
