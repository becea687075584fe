use Rattle.std.proofs.Common.{◌≡◌, ℕ, ◌+◌, ◌∙◌, arith, map, subst, to_z, w32}
use Rattle.std.proofs.lemmas.List.{length-map}
use Rattle.fir_core.specs.Blocks.{sum_within}
use Rattle.fir_core.proofs.InPlace.{chunk_written}
use Rattle.fir_core.proofs.LaneSums.{AreLanes, lanes_from, lanes_read}
use Rattle.fir_core.proofs.RowLaws.{lanes_added, sum_small}
use Rattle.fir_core.proofs.row_sums.add_eight.Goals as goal

pub loop-b-init : goal.loop-b-init
loop-b-init c = lanes_from (sum_within c.args.block 0) c.args.j c.args.sums.now (omega (arith, c.requires.inside.to, c.args.block.below, c.requires.added.long)) (λ k h l. c.requires.added.rest k h l)

pub loop-b-preserved : goal.loop-b-preserved
loop-b-preserved c = lanes_added c.args.block c.loop-b.b c.args.j c.loop-b.lanes c.loop-b-test.true c.requires.inside.from c.requires.inside.to c.loop-b.invariant

pub returns : goal.returns
returns c =
    let block = c.args.block in
    let added = c.requires.added in
    let lanes = map (to_z w32) c.loop-b.lanes in
    let all : c.loop-b.b ≡ 8 = omega (arith, c.loop-b-test.false, c.loop-b.auto.b-end) in
    let done : AreLanes (sum_within block 8) c.args.j c.loop-b.lanes = subst (λ (m : ℕ). AreLanes (sum_within block m) c.args.j c.loop-b.lanes) all c.loop-b.invariant in
    let small = λ (k : ℕ). sum_small block.lookup.taps.now block.bytes.now block.lookup.step (block.p + 8) k block.lookup.laid.small in
    let w = chunk_written (sum_within block 8) (sum_within block 0) block.limit c.args.j 8 c.args.sums.now lanes
    (length-map c.loop-b.lanes (to_z w32) ∙ done.long)
    (omega (arith, c.requires.inside.to, block.below))
    (lanes_read (sum_within block 8) c.args.j c.loop-b.lanes small done)
    (record { long = added.long; done = added.done; rest = λ k h l. added.rest k h (omega (arith, l, added.long)) }) in
    record { long = w.long; done = w.done; rest = λ k h l. w.rest k h (omega (arith, l, w.long)) }
