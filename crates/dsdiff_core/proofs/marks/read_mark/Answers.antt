use Rattle.dsd_bits.proofs.ExitLaws.{no_value}
use Rattle.dsdiff_core.proofs.marks.read_mark.Goals as goal

pub returns-in_err-text-clause-mark : goal.returns-in_err-text-clause-mark
returns-in_err-text-clause-mark c = no_value _ _ c.from_residual.result c.from_residual.ensures.1

pub returns-in_err-text-clause-short : goal.returns-in_err-text-clause-short
returns-in_err-text-clause-short c = no_value _ _ c.from_residual.result c.from_residual.ensures.1
