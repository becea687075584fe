use Rattle.std.proofs.Common.{◌≡◌, ℕ, ◌+◌, ◌*◌, ◌^◌, ◌≤◌, Bool, List, ◌++◌, ◌∙◌, ap, ap₂, arith, length, sym}
use Rattle.dsd_bits.proofs.ExitLaws.{any_err, no_ok}
use Rattle.dsd_bits.specs.Packing.{unpacked}
use Rattle.fir_core.specs.Places.{samples_from}
use Rattle.fir_core.proofs.TileLaws.{numbered, numbers_reach, whole_step}
use Rattle.fir_core.proofs.tiles.push_part.Goals as goal
use Rattle.fir_core.proofs.tiles.push_part.Goals.{After-factor}

-- where its samples end
reaches : (c : After-factor) → c.args.number * c.args.taps.now.factor + (c.args.start * c.args.taps.now.factor + c.args.taps.now.delay) ≤ 2 ^ 37
reaches c =
    let d = c.args.taps.now in
    let limits = c.factor.ensures.limits in
    numbers_reach c.args.start c.args.number (length c.args.bits.now) d.factor d.delay (omega (arith, limits.least_factor)) limits.greatest_factor (omega (arith, limits.delay_in_taps, limits.few_taps)) c.len-count.ensures.in_limit c.requires.within

pub returns-in_err-push_samples : goal.returns-in_err-push_samples
returns-in_err-push_samples c = record {
  ok = no_ok _ _ c.from_residual.result c.from_residual.ensures.1;
  err = any_err c.from_residual.result c.in_err-push_samples.ensures.err;
}

pub returns : goal.returns
returns c = record {
  ok = let d = c.args.taps.now in
      let bits : unpacked c.as_bytes.result.now c.len-count.result ≡ c.args.bits.now = ap (unpacked c.as_bytes.result.now) c.len-count.ensures.value ∙ sym c.as_bytes.ensures.bits in
      let place : c.args.start * c.factor.result + c.taps.inside.delay ≡ c.args.start * d.factor + d.delay = ap₂ (λ (x y : ℕ). c.args.start * x + y) c.factor.ensures.value (ap (λ f. f.delay) c.taps.view_is) in
      c.in_ok-push_samples.ensures.ok
      ∙ ap (λ xs. c.args.out.now.items ++ xs) (ap₂ (λ (bs : List Bool) (n : ℕ). samples_from d bs n c.args.number) bits place ∙ numbered d c.args.bits.now c.args.start c.args.number);
  err = tt;
}

pub push_samples-requires : goal.push_samples-requires
push_samples-requires c = record {
  reach = rw (c.factor.ensures.value, ap (λ f. f.delay) c.taps.view_is) (reaches (goal.at.push_samples-requires c).After-factor);
  phase = let d = c.args.taps.now in
      rw (c.factor.ensures.value, ap (λ f. f.delay) c.taps.view_is) (omega (arith, whole_step c.args.start d.factor c.factor.ensures.limits.whole_bytes));
}
