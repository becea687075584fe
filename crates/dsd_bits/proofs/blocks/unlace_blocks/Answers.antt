use Rattle.std.proofs.Common.{◌≡◌, map, sym, ap, ◌∙◌, arith}
use Rattle.std.proofs.lemmas.List.FromFn.{map-range_with_len_more}
use Rattle.std.specs.List.{range_with_len}
use Rattle.dsd_bits.specs.Blocks.{unblocked, unblocked_all}
use Rattle.dsd_bits.specs.Channels.{count_of}
use Rattle.dsd_bits.proofs.BlockLemmas.{unblocked_count, unblocked_level}
use Rattle.dsd_bits.proofs.blocks.unlace_blocks.Goals as goal
use Rattle.dsd_bits.proofs.blocks.unlace_blocks.Goals.{After-loop-c}

pub loop-c-preserved : goal.loop-c-preserved
loop-c-preserved c = record {
  items = rw (c.push_reserved.ensures.items, c.loop-c.invariant.items, c.in_ok-unlace_channel.ensures) (sym (map-range_with_len_more (unblocked c.args.order c.args.bytes.now c.args.channels c.args.count) 0 c.loop-c.c c.loop-c.c (omega arith)));
  len = omega (arith, c.push_reserved.ensures.len, c.loop-c.invariant.len);
  room = omega (arith, c.push_reserved.ensures.capacity, c.loop-c.invariant.room);
}

read : (c : After-loop-c) → c.loop-c.made.items ≡ unblocked_all c.args.order c.args.bytes.now c.args.channels c.args.count
read c =
    let at_end : c.loop-c.c ≡ c.args.channels = omega arith in
    c.loop-c.invariant.items ∙ ap (λ n. map (unblocked c.args.order c.args.bytes.now c.args.channels c.args.count) (range_with_len 0 n)) at_end

pub returns-clause-level : goal.returns-clause-level
returns-clause-level c = rw (read (goal.at.returns-clause-level c).After-loop-c) (unblocked_level c.args.order c.args.bytes.now c.args.channels c.args.count c.requires.channel_number.0)

pub returns-clause-count : goal.returns-clause-count
returns-clause-count c = ap count_of (read (goal.at.returns-clause-count c).After-loop-c) ∙ unblocked_count c.args.order c.args.bytes.now c.args.channels c.args.count c.requires.channel_number.0

pub returns-clause-ok : goal.returns-clause-ok
returns-clause-ok c = read (goal.at.returns-clause-ok c).After-loop-c
