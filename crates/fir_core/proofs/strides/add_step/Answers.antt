use Rattle.std.proofs.Common.{ℕ, ℤ, ◌+◌, ◌-◌, ◌*◌, ◌+ℤ◌, ap, arith, get_or, pos}
use Rattle.dsd_bits.specs.Sums.{sum_below}
use Rattle.fir_core.specs.Lookup.{groups_at, last_group}
use Rattle.fir_core.specs.Strides.{step_at}
use Rattle.fir_core.proofs.StrideLaws.{all_places, near_same, one_more_place}
use Rattle.fir_core.proofs.strides.add_step.Goals as goal

pub loop-place-preserved : goal.loop-place-preserved
loop-place-preserved g c =
    let step = c.args.of.lookup.step in
    let span = c.args.of.lookup.span in
    let place = c.loop-place.place in
    let row = c.last_columns.result.now in
    let entry : ℕ → ℕ → ℤ = λ k q. last_group c.args.of.lookup.taps.now (groups_at step span q (span - 8 * g.row.N + k)) (get_or c.args.bytes.now (c.args.u * step + q) 0) in
    record {
      long = c.add_row.ensures.len;
      sums = λ f before.
          near_same (λ k. (f k +ℤ sum_below place (entry k)) +ℤ get_or row k (pos 0)) (λ k. f k +ℤ sum_below (place + 1) (entry k)) g.row.N c.add_row.new.near
          (λ k h. one_more_place (f k) place (entry k) (get_or row k (pos 0)) (c.last_columns.ensures.each k h))
          (c.add_row.ensures.sums (λ k. f k +ℤ sum_below place (entry k)) (c.loop-place.invariant.sums f before));
    }

pub returns-clause-sums : goal.returns-clause-sums
returns-clause-sums g c = λ f before.
    let step = c.args.of.lookup.step in
    let span = c.args.of.lookup.span in
    let place = c.loop-place.place in
    let entry : ℕ → ℕ → ℤ = λ k q. last_group c.args.of.lookup.taps.now (groups_at step span q (span - 8 * g.row.N + k)) (get_or c.args.bytes.now (c.args.u * step + q) 0) in
    near_same (λ k. f k +ℤ sum_below place (entry k)) (λ k. f k +ℤ step_at c.args.of.lookup.taps.now c.args.bytes.now step span c.args.u (span - 8 * g.row.N + k)) g.row.N c.loop-place.near
    (λ k h. ap (λ z. f k +ℤ z) (all_places c.args.of.lookup.taps.now c.args.bytes.now step span c.args.u (span - 8 * g.row.N + k) place (omega arith)))
    (c.loop-place.invariant.sums f before)
