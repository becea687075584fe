use Rattle.dsd_bits.proofs.ExitLaws.{no_value}
use Rattle.fir_core.proofs.stream.Stream.new.Goals as goal

pub returns-in_err-tables : goal.returns-in_err-tables
returns-in_err-tables c = record {
  ready = no_value _ _ c.from_residual.result c.from_residual.ensures.1;
  made = no_value _ _ c.from_residual.result c.from_residual.ensures.1;
  fits = no_value _ _ c.from_residual.result c.from_residual.ensures.1;
}

pub returns-in_err-taps : goal.returns-in_err-taps
returns-in_err-taps c = record {
  ready = no_value _ _ c.from_residual-in_err-taps.result c.from_residual-in_err-taps.ensures.1;
  made = no_value _ _ c.from_residual-in_err-taps.result c.from_residual-in_err-taps.ensures.1;
  fits = no_value _ _ c.from_residual-in_err-taps.result c.from_residual-in_err-taps.ensures.1;
}
