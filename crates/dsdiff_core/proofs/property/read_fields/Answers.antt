use Rattle.std.proofs.Common.{◌≡◌, ℕ, List, Result, Ok, ap, arith, rules}
use Rattle.std.specs.Prelude.{option_map}
use Rattle.dsd_bits.proofs.ExitLaws.{no_value}
use Rattle.chunk_core.specs.Steps.{◌>>=◌}
use Rattle.dsdiff_core.specs.declared.fault.DsdiffFault.{DsdiffFault}
use Rattle.dsdiff_core.specs.Properties.{fields_of, raw_of}
use Rattle.dsdiff_core.proofs.ExitLaws.{fault_at}
use Rattle.dsdiff_core.proofs.JoinedSteps.{fails_then, step_then}
use Rattle.dsdiff_core.proofs.Steps.{step_fails}
use Rattle.dsdiff_core.proofs.property.read_fields.Goals as goal

pub returns-in_err-rate : goal.returns-in_err-rate
unfolding fields_of
returns-in_err-rate c =
    record {
      exact = fault_at _ _ c.from_residual.result _ c.from_residual.ensures.1 (step_fails _ _ _ c.in_err-rate.ensures);
      rate = no_value _ _ c.from_residual.result c.from_residual.ensures.1;
      number = no_value _ _ c.from_residual.result c.from_residual.ensures.1;
    }

pub returns-in_err-number : goal.returns-in_err-number
unfolding fields_of
returns-in_err-number c =
    record {
      exact = fault_at _ _ c.from_residual-in_err-number.result _ c.from_residual-in_err-number.ensures.1 (fails_then _ _ _ _ c.in_ok-rate.ensures (step_fails _ _ _ c.in_err-number.ensures.exact));
      rate = no_value _ _ c.from_residual-in_err-number.result c.from_residual-in_err-number.ensures.1;
      number = no_value _ _ c.from_residual-in_err-number.result c.from_residual-in_err-number.ensures.1;
    }

pub returns-in_err-refuse_compression : goal.returns-in_err-refuse_compression
unfolding fields_of
returns-in_err-refuse_compression c =
    record {
      exact = fault_at _ _ c.from_residual-in_err-refuse_compression.result _ c.from_residual-in_err-refuse_compression.ensures.1 (fails_then _ _ _ _ c.in_ok-rate.ensures (fails_then _ _ _ _ c.in_ok-number.ensures.exact (step_fails _ _ _ c.in_err-refuse_compression.ensures)));
      rate = no_value _ _ c.from_residual-in_err-refuse_compression.result c.from_residual-in_err-refuse_compression.ensures.1;
      number = no_value _ _ c.from_residual-in_err-refuse_compression.result c.from_residual-in_err-refuse_compression.ensures.1;
    }

pub returns-in_err-check_limits : goal.returns-in_err-check_limits
unfolding fields_of
returns-in_err-check_limits c =
    let raw : raw_of (option_map (λ x. x.now) c.args.kinds) ≡ Ok (tt {0}) = search rules in
    record {
      exact = fault_at _ _ c.from_residual-in_err-check_limits.result _ c.from_residual-in_err-check_limits.ensures.1 (fails_then _ _ _ _ c.in_ok-rate.ensures (fails_then _ _ _ _ c.in_ok-number.ensures.exact (fails_then _ _ _ _ raw (step_fails _ _ _ c.in_err-check_limits.ensures.exact))));
      rate = no_value _ _ c.from_residual-in_err-check_limits.result c.from_residual-in_err-check_limits.ensures.1;
      number = no_value _ _ c.from_residual-in_err-check_limits.result c.from_residual-in_err-check_limits.ensures.1;
    }

pub returns-in_err-ids : goal.returns-in_err-ids
unfolding fields_of
returns-in_err-ids c =
    record {
      exact = fault_at _ _ c.from_residual-in_err-ids.result _ c.from_residual-in_err-ids.ensures.1 (fails_then _ _ _ _ c.in_ok-rate.ensures (fails_then _ _ _ _ c.in_ok-number.ensures.exact (fails_then _ _ _ _ c.in_ok-refuse_compression.ensures (fails_then _ _ _ _ c.in_ok-check_limits.ensures.exact (step_fails _ _ (λ ids. Ok (c.in_ok-rate.rate, ids)) c.in_err-ids.ensures.exact)))));
      rate = no_value _ _ c.from_residual-in_err-ids.result c.from_residual-in_err-ids.ensures.1;
      number = no_value _ _ c.from_residual-in_err-ids.result c.from_residual-in_err-ids.ensures.1;
    }

pub returns : goal.returns
unfolding fields_of
returns c = record {
  exact = step_then _ _ _ _ c.in_ok-rate.ensures (step_then _ _ _ _ c.in_ok-number.ensures.exact (step_then _ _ _ _ c.in_ok-refuse_compression.ensures (step_then _ _ _ _ c.in_ok-check_limits.ensures.exact (ap (λ (r : Result (List (List ℕ)) DsdiffFault). r >>= λ ids. Ok (c.in_ok-rate.rate, ids)) c.in_ok-ids.ensures.exact))));
  rate = c.in_ok-check_limits.ensures.rate;
  number = (omega (arith, c.in_ok-ids.ensures.number, c.in_ok-check_limits.ensures.number.0), omega (arith, c.in_ok-ids.ensures.number, c.in_ok-check_limits.ensures.number.1));
}
