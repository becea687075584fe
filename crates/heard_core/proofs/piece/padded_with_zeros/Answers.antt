use Rattle.dsd_bits.proofs.ExitLaws.{no_value}
use Rattle.heard_core.proofs.piece.padded_with_zeros.Goals as goal

pub returns-in_err-made : goal.returns-in_err-made
returns-in_err-made c = no_value _ _ c.from_residual.result c.from_residual.ensures.1

pub returns-in_err-resize : goal.returns-in_err-resize
returns-in_err-resize c = no_value _ _ c.from_residual-in_err-resize.result c.from_residual-in_err-resize.ensures.1
