use Rattle.std.proofs.Common.{◌≡◌, ◌+◌, ◌≤◌, ◌++◌, ◌∙◌, List, ℕ, take, drop, length, replicate, slice_index, sym, ap, inl, inr, arith, length-append}
use Rattle.std.proofs.Math.Nat.{le-add_right}
use Rattle.std.proofs.lemmas.Bool.{cases_lt}
use Rattle.std.proofs.lemmas.List.{drop_at, get_or-replicate, get_or_past, length-replicate, take_all}
use Rattle.dsd_bits.proofs.ShiftingLemmas.{written_after}
use Rattle.interleave_core.proofs.MovingLaws.{blocks_are}
use Rattle.interleave_core.proofs.moving.push_as_blocks.Goals as goal

pub returns-clause-ok : goal.returns-clause-ok
returns-clause-ok c =
    let s = c.args.stretch in
    let prefix = c.split_at_mut-blocks.result.0.now in
    let new = c.put_in_order.new.bytes in
    let filled = c.fill_blocks.new.blocks in
    written_after c.args.out.now.items _ c.resize.new.self.items prefix new _ c.len-kept.result (c.len-kept.result + c.blocks_size.result) c.resize.new.self.len
    (c.len-kept.ensures ∙ c.args.out.now.ok.0) (le-add_right _ _) c.in_ok-resize.ensures.items (c.split_at_mut-blocks.ensures.front ∙ ap (take c.len-kept.result) c.as_mut_slice.ensures.value)
    (omega (arith, length-append prefix new))
    ∙ ap (λ xs. c.args.out.now.items ++ xs) (c.put_in_order.ensures ∙ blocks_are c.args.order c.args.bytes.now filled s.channels s.count c.args.stretch.channel_number.0 c.requires.whole c.args.stretch.in_limit (λ k. omega (arith, c.type_inv.bytes k)) c.requires.size (omega (arith, c.fill_blocks.auto.blocks, c.split_at_mut-blocks.ensures.back_len, c.as_mut_slice.ensures.len, c.in_ok-resize.ensures.len, c.blocks_size.ensures.value)) c.fill_blocks.ensures)

-- ---- what grew is zeros
zeros : (m place : ℕ) → slice_index (replicate m 0) place ≡ 0
zeros m place = elim (cases_lt place m) [
  | inl low ↦ get_or-replicate m place 0 0 low
  | inr high ↦ get_or_past (replicate m 0) place 0 (omega (arith, length-replicate {A = ℕ} m 0))
]

zeros_after : (old all back : List ℕ) (kept n m : ℕ) → kept ≡ length old → kept ≤ n → all ≡ take n old ++ replicate m 0 → back ≡ drop kept all → (place : ℕ) → slice_index back place ≡ 0
zeros_after old all back kept n m k h all_is back_is place =
    let whole = all_is ∙ ap (λ xs. xs ++ replicate m 0) (take_all n old (omega arith)) in
    ap (λ xs. slice_index xs place) (back_is ∙ ap (drop kept) whole ∙ drop_at old (replicate m 0) kept (sym k)) ∙ zeros m place

pub fill_blocks-requires-clause-zeros : goal.fill_blocks-requires-clause-zeros
fill_blocks-requires-clause-zeros c =
    zeros_after c.args.out.now.items c.resize.new.self.items _ c.len-kept.result (c.len-kept.result + c.blocks_size.result) _ (c.len-kept.ensures ∙ c.args.out.now.ok.0) (le-add_right _ _) c.in_ok-resize.ensures.items
    (c.split_at_mut-blocks.ensures.back ∙ ap (drop c.len-kept.result) c.as_mut_slice.ensures.value)
