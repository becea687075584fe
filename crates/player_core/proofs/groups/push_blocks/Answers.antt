use Rattle.std.proofs.Common.{◌≡◌, ◌+◌, ◌*◌, ◌≤◌, ◌++◌, ◌∙◌, min, take, drop, length, map, sym, ap, arith, append_assoc}
use Rattle.std.proofs.lemmas.List.{append-nil, map-append}
use Rattle.std.proofs.lemmas.Result.{IfOk-from_err}
use Rattle.dsd_bits.specs.Blocks.{ordered}
use Rattle.dsd_bits.proofs.BlockLemmas.{own_blocks, own_blocks_more}
use Rattle.player_core.proofs.GroupLaws.{block_within, blocks_are}
use Rattle.player_core.proofs.groups.push_blocks.Goals as goal
use Rattle.player_core.proofs.groups.push_blocks.Goals.{In-loop-group}

pub loop-group-preserved : goal.loop-group-preserved
loop-group-preserved c =
    let bytes = c.args.groups.now in
    let group = c.loop-group.group in
    let order = c.args.order in
    let at = (group * c.args.channels + c.args.channel) * 4096 in
    let own = own_blocks bytes c.args.channels c.args.channel in
    let before : min (4096 * group) c.args.number ≡ 4096 * group = omega (arith, c.div_ceil-group-end.ensures, c.loop-group-test.true) in
    let after : 4096 * group + c.min.result ≡ min (4096 * (group + 1)) c.args.number = omega (arith, c.min.ensures, before) in
    let more = own_blocks_more bytes c.args.channels c.args.channel group c.min.result (omega (arith, c.min.ensures)) (block_within c.args.channels c.args.channel c.args.number group c.min.result (length bytes) c.requires.channel.0 (omega (arith, c.min.ensures)) (omega (arith, c.div_ceil-group-end.ensures, c.loop-group-test.true)) c.requires.enough) in
    let used = c.split_at-in-loop-group.ensures.front ∙ ap (take c.min.result) c.split_at.ensures.back in
    let joined = map-append (ordered order) (own (4096 * group)) (take c.min.result (drop at bytes)) in
    c.in_ok-push_in_order.ensures ∙ ap (λ xs. xs ++ map (ordered order) c.split_at-in-loop-group.result.0.now) (c.loop-group.invariant ∙ ap (λ n. c.args.own.now.items ++ map (ordered order) (own n)) before)
    ∙ append_assoc c.args.own.now.items (map (ordered order) (own (4096 * group))) (map (ordered order) c.split_at-in-loop-group.result.0.now)
    ∙ ap (λ xs. c.args.own.now.items ++ xs) (ap (λ xs. map (ordered order) (own (4096 * group)) ++ map (ordered order) xs) used ∙ sym joined ∙ ap (map (ordered order)) (more ∙ ap own after))

pub returns : goal.returns
returns c =
    let all : min (4096 * c.loop-group.group) c.args.number ≡ c.args.number = omega (arith, c.div_ceil-group-end.ensures, c.loop-group-test.false) in
    c.loop-group.invariant ∙ ap (λ n. c.args.own.now.items ++ map (ordered c.args.order) (own_blocks c.args.groups.now c.args.channels c.args.channel n)) all
    ∙ ap (λ xs. c.args.own.now.items ++ xs) (blocks_are c.args.order c.args.channels c.args.groups.now c.args.channel c.args.number)

-- ---- what the calls in the loop need
place : (c : In-loop-group) → (c.loop-group.group * c.args.channels + c.args.channel) * 4096 + 0 ≤ length c.args.groups.now
place c =
    block_within c.args.channels c.args.channel c.args.number c.loop-group.group 0 (length c.args.groups.now) c.requires.channel.0 (omega arith)
    (omega (arith, c.div_ceil-group-end.ensures, c.loop-group-test.true)) c.requires.enough

pub div_ceil-group-end-requires : goal.div_ceil-group-end-requires
div_ceil-group-end-requires c = omega arith

pub loop-group-init : goal.loop-group-init
loop-group-init c =
    let none : min 0 c.args.number ≡ 0 = omega arith in
    sym (ap (λ n. c.args.own.now.items ++ map (ordered c.args.order) (own_blocks c.args.groups.now c.args.channels c.args.channel n)) none ∙ append-nil c.args.own.now.items)

pub overflow_mul-group : goal.overflow_mul-group
overflow_mul-group c = omega (arith, place c)

pub overflow_add-group : goal.overflow_add-group
overflow_add-group c = omega (arith, place c)

pub overflow_mul-group-in-loop-group : goal.overflow_mul-group-in-loop-group
overflow_mul-group-in-loop-group c = omega (arith, place c)

pub split_at-requires : goal.split_at-requires
split_at-requires c = omega (arith, place c)

pub overflow_mul-group-in-loop-group-2 : goal.overflow_mul-group-in-loop-group-2
overflow_mul-group-in-loop-group-2 c = omega (arith, c.div_ceil-group-end.ensures, c.loop-group-test.true)

pub overflow_sub-number : goal.overflow_sub-number
overflow_sub-number c = omega (arith, c.div_ceil-group-end.ensures, c.loop-group-test.true)

pub split_at-requires-in-loop-group : goal.split_at-requires-in-loop-group
split_at-requires-in-loop-group c =
    let within = block_within c.args.channels c.args.channel c.args.number c.loop-group.group c.min.result (length c.args.groups.now) c.requires.channel.0 (omega (arith, c.min.ensures))
    (omega (arith, c.div_ceil-group-end.ensures, c.loop-group-test.true)) c.requires.enough in
    omega (arith, within, c.split_at.ensures.back_len)

pub returns-in_err-push_in_order : goal.returns-in_err-push_in_order
returns-in_err-push_in_order c = IfOk-from_err c.from_residual.result _ c.from_residual.ensures.0
