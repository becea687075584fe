use Rattle.std.proofs.Common.{◌≡◌, ◌+◌, ◌<◌, ◌∙◌, ap, arith, length, to_z, w32}
use Rattle.fir_core.specs.Lookup.{sum_before}
use Rattle.fir_core.proofs.RowLaws.{block_entry, byte_fits, byte_is}
use Rattle.fir_core.proofs.row_sums.add_one.Goals as goal

pub overflow_add-all-in-loop-b : goal.overflow_add-all-in-loop-b
overflow_add-all-in-loop-b c =
    let block = c.args.block in
    let p = block.p + c.loop-b.b in
    let so_far : to_z w32 c.loop-b.all-bits ≡ sum_before block.lookup.taps.now block.bytes.now block.lookup.step p c.args.j = c.loop-b.invariant in
    let within : p < length block.bytes.now = omega (arith, block.block.within, c.loop-b-test.true) in
    byte_fits block.lookup.taps.now block.bytes.now block.lookup.step p c.args.j block.lookup.laid.small within _ _ (block_entry block c.loop-b.b c.args.j c.loop-b-test.true c.requires.inside.from (omega (arith, c.requires.inside.to))) so_far

pub loop-b-preserved : goal.loop-b-preserved
loop-b-preserved c =
    let block = c.args.block in
    let p = block.p + c.loop-b.b in
    let so_far : to_z w32 c.loop-b.all-bits ≡ sum_before block.lookup.taps.now block.bytes.now block.lookup.step p c.args.j = c.loop-b.invariant in
    let within : p < length block.bytes.now = omega (arith, block.block.within, c.loop-b-test.true) in
    let next : p + 1 ≡ block.p + (c.loop-b.b + 1) = omega arith in
    byte_is block.lookup.taps.now block.bytes.now block.lookup.step p c.args.j block.lookup.laid.small within _ _ (block_entry block c.loop-b.b c.args.j c.loop-b-test.true c.requires.inside.from (omega (arith, c.requires.inside.to))) so_far
    ∙ ap (λ m. sum_before block.lookup.taps.now block.bytes.now block.lookup.step m c.args.j) next
