use Rattle.std.proofs.Common.{◌≡◌, ℕ, ℤ, ◌+◌, ◌*◌, ◌/◌, ◌≤◌, ◌∙◌, inl, inr, List, arith, length, subst, sym}
use Rattle.std.proofs.lemmas.Bool.{cases_lt}
use Rattle.fir_core.specs.Blocks.{AreAdded, AreSummed, IsAfter, IsBlockOf}
use Rattle.fir_core.specs.declared.lookup.Block.{Block}
use Rattle.fir_core.specs.declared.lookup.Spot.{Spot}
use Rattle.fir_core.proofs.RowLaws.{all_before, not_begun}
use Rattle.fir_core.proofs.row_sums.add_block.Goals as goal

-- the windows before a block have all of their bytes, and those after it none of the block's
begun : (spot : Spot) (block : Block) (sums : List ℤ) → IsBlockOf spot (length sums) block → AreSummed spot sums → AreAdded block block.start sums
begun spot block sums of so_far =
    let here : block.p + 0 ≡ spot.p = omega (arith, of.p) in
    record {
      long = sym of.within;
      done = λ k h.
          let ended = of.done k h in
          rw (of.lookup, of.bytes, of.p) (so_far k (omega (arith, h, block.below, of.within)) ∙ all_before spot.lookup.taps.now spot.bytes.now spot.lookup.step spot.p (spot.p + 8) k spot.lookup.laid.whole ended (omega (arith, ended)));
      rest = λ k h l. rw (of.lookup, of.bytes, here) (so_far k l);
    }

all_done : (spot after : Spot) (block : Block) (number : ℕ) (sums : List ℤ) → IsBlockOf spot number block → IsAfter 8 spot after → AreAdded block (block.start + block.number) sums → AreSummed after sums
all_done spot after block number sums of next added k l =
    let begins : block.start + block.number ≤ k → block.p + 8 ≤ k * block.lookup.step = λ past. rw (of.lookup, of.p) (of.rest k past (omega (arith, l, added.long, of.within))) in
    rw (next.lookup, next.bytes, next.p, ← of.lookup, ← of.bytes, ← of.p) (elim (cases_lt k (block.start + block.number)) [
      | inl before ↦ added.done k before
      | inr past ↦ added.rest k past l ∙ not_begun block.lookup.taps.now block.bytes.now block.lookup.step (block.p + 0) (block.p + 8) k (omega (arith, begins past)) (begins past)
    ])

pub returns-else-block-ne0-clause-sums : goal.returns-else-block-ne0-clause-sums
returns-else-block-ne0-clause-sums c =
    let block = c.block_of.result.0 in
    let whole : block.start + 8 * (block.number / 8) ≡ block.start + block.number = omega arith in
    all_done _ _ _ _ _ c.block_of.ensures.block c.block_of.ensures.next (subst (λ j. AreAdded block j c.add_eights.new.sums) whole c.add_eights.ensures)

pub add_eights-requires : goal.add_eights-requires
add_eights-requires c = begun _ _ _ c.block_of.ensures.block c.requires.so_far

pub returns-then-block-ne0-clause-sums : goal.returns-then-block-ne0-clause-sums
returns-then-block-ne0-clause-sums c = all_done _ _ _ _ _ c.block_of.ensures.block c.block_of.ensures.next c.add_rest.ensures
