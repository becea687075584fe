use Rattle.std.proofs.Common.{◌≡◌, ◌+◌, ◌-◌, ◌*◌, ◌/◌, ◌≤◌, ◌∙◌, arith, length, pos, refl, sym}
use Rattle.std.proofs.Math.Nat.{mul-le-mul_right}
use Rattle.std.proofs.lemmas.List.FromFn.{fill_by_all}
use Rattle.fir_core.specs.Windows.{window_sum}
use Rattle.fir_core.proofs.RowLaws.{none_before, whole_window}
use Rattle.fir_core.proofs.row_sums.sum_steps.Goals as goal

pub overflow_mul-reach : goal.overflow_mul-reach
overflow_mul-reach c = omega (arith, c.requires.each (length c.fill.new.self - 1) (omega (arith, c.fill.ensures.len, c.requires.some)))

pub overflow_add-reach : goal.overflow_add-reach
overflow_add-reach c = omega (arith, c.requires.each (length c.fill.new.self - 1) (omega (arith, c.fill.ensures.len, c.requires.some)))

pub loop-block-init : goal.loop-block-init
loop-block-init c = record {
  long = refl;
  spot = record { at = omega arith; inside = omega (arith, c.args.lookup.laid.least) };
  sums = λ k h. c.fill.ensures.clones k (pos 0) (omega (arith, c.fill.ensures.len)) refl ∙ sym (none_before c.args.lookup.taps.now c.args.bytes.now c.args.lookup.step k);
}

pub returns : goal.returns
returns c =
    let lookup = c.args.lookup in
    let number = length c.args.sums.now in
    let long : length c.loop-p.sums ≡ number = omega (arith, c.loop-p.invariant.long, c.loop-block.invariant.long, c.fill.ensures.len) in
    fill_by_all (λ i. window_sum lookup.taps.now c.args.bytes.now (i * lookup.step)) c.loop-p.sums number (pos 0) long
    (λ k h.
    let before : k * lookup.step ≤ (length c.fill.new.self - 1) * lookup.step = mul-le-mul_right lookup.step (omega (arith, c.fill.ensures.len)) in
    let ended : length lookup.taps.now / 8 + k * lookup.step ≤ c.loop-p.p = omega (arith, c.loop-p-test.false, before) in
    c.loop-p.invariant.sums k (omega (arith, long)) ∙ whole_window lookup.taps.now c.args.bytes.now lookup.step c.loop-p.p k lookup.laid.whole ended)
