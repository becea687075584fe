use Rattle.std.proofs.Common.{◌∙◌, Global, Vec, ℤ, ap, map}
use Rattle.std.proofs.lemmas.Result.{err_from_is_err_and}
use Rattle.dsd_bits.proofs.ExitLaws.{no_value}
use Rattle.clip_core.specs.Contents.{mix_content}
use Rattle.null_core.proofs.ReadingLaws.{fault_of_takes, takes_fit}
use Rattle.null_core.proofs.mixed.low_passes_of.Goals as goal

pub returns-in_err-fits : goal.returns-in_err-fits
returns-in_err-fits c =
    let p = err_from_is_err_and c.from_residual.result c.from_residual.ensures.1 in
    record {
      decoders = no_value _ _ c.from_residual.result c.from_residual.ensures.1;
      audible = no_value _ _ c.from_residual.result c.from_residual.ensures.1;
      fit = no_value _ _ c.from_residual.result c.from_residual.ensures.1;
      fault = rw (p.1, p.2) (fault_of_takes (mix_content c.args.mix.now) c.args.takes.now c.in_err-fits.field-0.0 c.in_err-fits.ensures.fault);
    }

pub returns-in_err-decoders : goal.returns-in_err-decoders
returns-in_err-decoders c =
    let p = err_from_is_err_and c.from_residual-in_err-decoders.result c.from_residual-in_err-decoders.ensures.1 in
    record {
      decoders = no_value _ _ c.from_residual-in_err-decoders.result c.from_residual-in_err-decoders.ensures.1;
      audible = no_value _ _ c.from_residual-in_err-decoders.result c.from_residual-in_err-decoders.ensures.1;
      fit = no_value _ _ c.from_residual-in_err-decoders.result c.from_residual-in_err-decoders.ensures.1;
      fault = rw (p.1, p.2) tt;
    }

pub returns-in_err-audible : goal.returns-in_err-audible
returns-in_err-audible c =
    let p = err_from_is_err_and c.from_residual-in_err-audible.result c.from_residual-in_err-audible.ensures.1 in
    record {
      decoders = no_value _ _ c.from_residual-in_err-audible.result c.from_residual-in_err-audible.ensures.1;
      audible = no_value _ _ c.from_residual-in_err-audible.result c.from_residual-in_err-audible.ensures.1;
      fit = no_value _ _ c.from_residual-in_err-audible.result c.from_residual-in_err-audible.ensures.1;
      fault = rw (p.1, p.2) tt;
    }

pub returns : goal.returns
returns c = record {
  decoders = c.in_ok-decoders.ensures ∙ ap (map (λ (taps : Vec ℤ Global). taps.items)) c.deref.ensures.value;
  audible = c.in_ok-audible.ensures ∙ c.deref-2.ensures.value;
  fit = takes_fit (mix_content c.args.mix.now) c.args.takes.now c.in_ok-fits.ensures.fit;
  fault = tt;
}
