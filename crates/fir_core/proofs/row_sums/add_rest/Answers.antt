use Rattle.std.proofs.Common.{ℤ, ◌<◌, ◌∙◌, arith, length, w32}
use Rattle.std.proofs.Math.ListN.{length-set}
use Rattle.std.proofs.lemmas.Int.{to_z-of_z}
use Rattle.fir_core.specs.Blocks.{sum_within}
use Rattle.fir_core.proofs.InPlace.{one_less, one_more}
use Rattle.fir_core.proofs.row_sums.add_rest.Goals as goal

pub loop-j-preserved : goal.loop-j-preserved
loop-j-preserved c =
    let done = sum_within c.args.block 8 in
    let rest = sum_within c.args.block 0 in
    let before = c.loop-j.invariant in
    let within : c.loop-j.j < length c.loop-j.sums = omega (arith, c.loop-j-test.true, c.args.block.below, before.long) in
    let is = to_z-of_z w32 c.add_one.result (record { sfits = c.add_one.type_inv }) ∙ c.add_one.ensures in
    record {
      long = omega (arith, length-set {A = ℤ}, before.long);
      done = one_more done rest c.loop-j.sums c.loop-j.j c.add_one.result within is before.done before.rest;
      rest = one_less done rest c.loop-j.sums c.loop-j.j c.add_one.result within is before.done before.rest;
    }
