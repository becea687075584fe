use Rattle.std.proofs.Common.{◌≡◌, ◌+◌, ◌-◌, ◌^◌, ◌≤◌, ◌∙◌, ◌++◌, Bool, List, ap, arith, length, slice_range, subst, sym}
use Rattle.std.proofs.lemmas.List.{append_assoc, length-append}
use Rattle.std.proofs.lemmas.List.Edits.{length-between}
use Rattle.dsd_bits.proofs.ExitLaws.{no_value}
use Rattle.null_core.specs.Channels.{KeepsChannel, blocks_bits}
use Rattle.null_core.proofs.BlockLaws.{block_added, block_kept, length-channel, range_size}
use Rattle.null_core.proofs.channel.Channel.push_some.Goals as goal
use Rattle.null_core.proofs.channel.Channel.push_some.Goals.{After-push_block, In_ok-push_range}

-- ---- a whole block
inside : (c : After-push_block) → c.args.from + 65536 ≤ length c.args.bits.now
inside c = omega (arith, c.if-count-from-ge-BLOCK.true, c.len-count.ensures.value, c.requires.some)

none : (c : After-push_block) → length c.self.inside.last ≡ 0
none c = omega (arith, c.if-held-eq0.true, c.len-held.ensures.value)

few : (c : After-push_block) → length (blocks_bits c.self.inside.blocks.items ++ slice_range c.args.bits.now c.args.from (c.args.from + 65536)) ≤ 2 ^ 36
few c =
    let blocks = c.self.inside.blocks.items in
    let added = slice_range c.args.bits.now c.args.from (c.args.from + 65536) in
    omega (arith, length-channel blocks added c.self.invariant.full, range_size c.args.bits.now c.args.from 65536 (inside c), length-channel blocks c.self.inside.last c.self.invariant.full, ap length c.self.view_is, c.requires.fits, inside c)

kept : (c : After-push_block) → KeepsChannel record { blocks = c.push_block.new.blocks; last = c.self.inside.last }
kept c = block_kept c.self.inside.blocks.items (record { blocks = c.push_block.new.blocks; last = c.self.inside.last }) (slice_range c.args.bits.now c.args.from (c.args.from + 65536)) (none c) c.push_block.ensures.settled c.self.invariant.full (few c)

pub push_block-requires : goal.push_block-requires
push_block-requires c = record {
  inside = omega (arith, c.if-count-from-ge-BLOCK.true, c.len-count.ensures.value, c.requires.some);
  fits = omega (arith, length-channel c.self.inside.blocks.items c.self.inside.last c.self.invariant.full, ap length c.self.view_is, c.requires.fits, c.len-count.ensures.value, c.if-count-from-ge-BLOCK.true);
}

pub invariant_of-self : goal.invariant_of-self
invariant_of-self c = kept (goal.at.invariant_of-self c).After-push_block

pub returns-in_err-push_block : goal.returns-in_err-push_block
returns-in_err-push_block c = record {
  after = no_value _ _ c.from_residual.result c.from_residual.ensures.1;
  inside = no_value _ _ c.from_residual.result c.from_residual.ensures.1;
  added = no_value _ _ c.from_residual.result c.from_residual.ensures.1;
}

pub invariant_of-self-then-count-from-ge-BLOCK : goal.invariant_of-self-then-count-from-ge-BLOCK
invariant_of-self-then-count-from-ge-BLOCK c = kept (goal.at.invariant_of-self-then-count-from-ge-BLOCK c).After-push_block

pub returns-then-count-from-ge-BLOCK : goal.returns-then-count-from-ge-BLOCK
returns-then-count-from-ge-BLOCK c =
    let here = (goal.at.returns-then-count-from-ge-BLOCK c).After-push_block in
    let added = slice_range c.args.bits.now c.args.from (c.args.from + 65536) in
    record {
      after = omega arith;
      inside = inside here;
      added = block_added c.self.inside.blocks.items (record { blocks = c.push_block.new.blocks; last = c.self.inside.last }) added (none here) c.in_ok-push_block.ensures.added ∙ ap (λ l. l ++ added) c.self.view_is;
    }

-- ---- bits after the last block
size : (c : In_ok-push_range) → length (slice_range c.args.bits.now c.args.from c.min-next.result) ≡ c.min-next.result - c.args.from
size c = length-between c.args.bits.now c.args.from c.min-next.result (omega (arith, c.min-next.ensures, c.len-count.ensures.value))

pushed : (c : In_ok-push_range) → blocks_bits c.self.inside.blocks.items ++ c.push_range.new.self ≡ c.args.self.now ++ slice_range c.args.bits.now c.args.from c.min-next.result
pushed c =
    let old = blocks_bits c.self.inside.blocks.items in
    let added = slice_range c.args.bits.now c.args.from c.min-next.result in
    ap (λ l. old ++ l) c.in_ok-push_range.ensures.ok ∙ sym (append_assoc old c.self.inside.last added) ∙ ap (λ l. l ++ added) c.self.view_is

fits : (c : In_ok-push_range) → length (blocks_bits c.self.inside.blocks.items ++ c.push_range.new.self) ≤ 2 ^ 36
fits c = omega (arith, ap length (pushed c), length-append c.args.self.now (slice_range c.args.bits.now c.args.from c.min-next.result), size c, c.requires.fits, c.min-next.ensures, c.len-count.ensures.value)

pub invariant_of-self-in_err-push_range : goal.invariant_of-self-in_err-push_range
invariant_of-self-in_err-push_range c = subst (λ (l : List Bool). KeepsChannel record { blocks = c.self.inside.blocks; last = l }) (sym c.in_err-push_range.ensures.err) c.self.invariant

pub returns-in_err-push_range : goal.returns-in_err-push_range
returns-in_err-push_range c = record {
  after = no_value _ _ c.from_residual-in_err-push_range.result c.from_residual-in_err-push_range.ensures.1;
  inside = no_value _ _ c.from_residual-in_err-push_range.result c.from_residual-in_err-push_range.ensures.1;
  added = no_value _ _ c.from_residual-in_err-push_range.result c.from_residual-in_err-push_range.ensures.1;
}

pub settle-requires-clause-most : goal.settle-requires-clause-most
settle-requires-clause-most c =
    let here = (goal.at.settle-requires-clause-most c).In_ok-push_range in
    omega (arith, ap length here.in_ok-push_range.ensures.ok, length-append here.self.inside.last (slice_range here.args.bits.now here.args.from here.min-next.result), size here, c.min-next.ensures, c.len-held.ensures.value, c.self.invariant.rest)

pub settle-requires-clause-fits : goal.settle-requires-clause-fits
settle-requires-clause-fits c =
    omega (arith, length-channel c.self.inside.blocks.items c.push_range.new.self c.self.invariant.full, fits (goal.at.settle-requires-clause-fits c).In_ok-push_range)

pub invariant_of-self-in_err-settle : goal.invariant_of-self-in_err-settle
invariant_of-self-in_err-settle c =
    let settled = c.in_err-settle.ensures.settled in
    record { full = settled.full c.self.invariant.full; rest = settled.rest; few = omega (arith, settled.few, fits (goal.at.invariant_of-self-in_err-settle c).In_ok-push_range) }

pub returns-in_err-settle : goal.returns-in_err-settle
returns-in_err-settle c = record {
  after = no_value _ _ c.from_residual-in_err-settle.result c.from_residual-in_err-settle.ensures.1;
  inside = no_value _ _ c.from_residual-in_err-settle.result c.from_residual-in_err-settle.ensures.1;
  added = no_value _ _ c.from_residual-in_err-settle.result c.from_residual-in_err-settle.ensures.1;
}

pub invariant_of-self-2 : goal.invariant_of-self-2
invariant_of-self-2 c =
    let settled = c.in_ok-settle.ensures.settled in
    record { full = settled.full c.self.invariant.full; rest = settled.rest; few = omega (arith, settled.few, fits (goal.at.invariant_of-self-2 c).In_ok-push_range) }

pub returns : goal.returns
returns c = record {
  after = omega (arith, c.min-next.ensures, c.len-count.ensures.value, c.len-held.ensures.value, c.requires.some, c.self.invariant.rest);
  inside = omega (arith, c.min-next.ensures, c.len-count.ensures.value);
  added = c.in_ok-settle.ensures.same ∙ pushed (goal.at.returns c).In_ok-push_range;
}

pub overflow_sub-held : goal.overflow_sub-held
overflow_sub-held c = omega (arith, c.len-held.ensures.value, c.self.invariant.rest)

pub overflow_add-from : goal.overflow_add-from
overflow_add-from c = omega (arith, c.requires.some, c.len-count.ensures.value, c.len-count.ensures.in_limit)
