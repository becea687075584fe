use Rattle.std.proofs.Common.{arith, inl, inr, refl}
use Rattle.std.proofs.lemmas.Result.{err_from_is_err_and}
use Rattle.fir_core.specs.Decimator.{Decimator, IsWithinLimits}
use Rattle.fir_core.proofs.LimitLaws.{no_fault-from_IsWithinLimits}
use Rattle.fir_core.proofs.taps.Taps.new.Goals as goal
use Rattle.fir_core.proofs.taps.Taps.new.Goals.{After-from_slice}

-- the numbers that were let through
within : (c : After-from_slice) → let d : Decimator = record { taps = c.args.taps.now; factor = c.args.factor; delay = c.args.delay; shift = c.args.shift; width = c.args.width } in IsWithinLimits d
within c = record {
  some_taps = omega arith;
  few_taps = omega arith;
  small_sum = omega (arith, c.abs_sum.ensures);
  whole_bytes = omega arith;
  least_factor = omega arith;
  greatest_factor = omega arith;
  delay_in_taps = omega arith;
  small_shift = omega arith;
  known_width = elim c.else-width-ne16.either [ inl other ↦ inr other.1 | inr sixteen ↦ inl sixteen ];
}

pub returns-in_err-taps : goal.returns-in_err-taps
returns-in_err-taps c =
    let e = err_from_is_err_and c.from_residual.result c.from_residual.ensures.1 in
    record {
      ok = rw e.1 tt;
      found = rw e.1 tt;
      only = λ limits. rw (e.1, e.2) refl;
      order = rw (e.1, e.2) (no_fault-from_IsWithinLimits _ (within (goal.at.returns-in_err-taps c).After-from_slice));
    }

pub returns : goal.returns
returns c = record {
  ok = rw c.in_ok-taps.ensures.items refl;
  found = within (goal.at.returns c).After-from_slice;
  only = λ limits. tt;
  order = no_fault-from_IsWithinLimits _ (within (goal.at.returns c).After-from_slice);
}
