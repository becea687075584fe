use Rattle.std.proofs.Common.{◌≡◌, ℕ, ◌+◌, ◌*◌, ◌<◌, ◌/◌, ◌∙◌, ap, arith, length, sym, w32}
use Rattle.std.specs.Int.{int_wrap}
use Rattle.dsd_bits.specs.Sums.{sum_below}
use Rattle.fir_core.specs.Strides.{stride_sum}
use Rattle.fir_core.proofs.StrideLaws.{all_turns_fit, reach_within, sum_next}
use Rattle.fir_core.proofs.strides.add_strides.Goals as goal

pub loop-s-preserved : goal.loop-s-preserved
loop-s-preserved g c =
    let turn = λ (i s : ℕ). stride_sum c.args.of.lookup.taps.now c.args.bytes.now c.args.of.lookup.step c.args.of.lookup.span g.row.N s i in
    record {
      long = c.add_stride.ensures.len ∙ c.loop-s.invariant.long;
      sums = λ j h.
          c.add_stride.ensures.added (j + 7) (omega arith) (omega (arith, h, c.loop-s.invariant.long)) (sum_below c.loop-s.s (turn (j + 7))) (c.loop-s.invariant.sums j h)
          ∙ ap (int_wrap w32) (sym (sum_next c.loop-s.s (turn (j + 7))));
    }

pub returns : goal.returns
returns g c = record {
  len = c.loop-s.invariant.long;
  sums = λ j under.
      let below : j + 15 < 8 * (length c.args.sums.now / 8) = rw (← c.loop-s.invariant.long) under in
      let hs = c.args.of.lookup.taps.now in
      let bytes = c.args.bytes.now in
      let step = c.args.of.lookup.step in
      let span = c.args.of.lookup.span in
      let all : c.loop-s.s ≡ 8 = omega arith in
      c.loop-s.invariant.sums j below
      ∙ ap (λ m. int_wrap w32 (sum_below m (λ s. stride_sum hs bytes step span g.row.N s (j + 7)))) all
      ∙ all_turns_fit hs bytes step span g.row.N j c.args.of.span (reach_within j g.row.N (length c.args.sums.now / 8) step (length bytes) below c.requires.enough) c.args.of.lookup.laid.whole c.args.of.wide c.args.of.lookup.laid.small;
}
