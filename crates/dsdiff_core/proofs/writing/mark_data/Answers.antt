use Rattle.dsd_bits.proofs.ExitLaws.{no_value}
use Rattle.dsdiff_core.proofs.writing.mark_data.Goals as goal

pub returns-in_err-push_u16 : goal.returns-in_err-push_u16
returns-in_err-push_u16 c = no_value _ _ c.from_residual.result c.from_residual.ensures.1

pub returns-in_err-extend_from_slice : goal.returns-in_err-extend_from_slice
returns-in_err-extend_from_slice c = no_value _ _ c.from_residual-in_err-extend_from_slice.result c.from_residual-in_err-extend_from_slice.ensures.1

pub returns-in_err-push_u32 : goal.returns-in_err-push_u32
returns-in_err-push_u32 c = no_value _ _ c.from_residual-in_err-push_u32.result c.from_residual-in_err-push_u32.ensures.1

pub returns-in_err-push_u32-2 : goal.returns-in_err-push_u32-2
returns-in_err-push_u32-2 c = no_value _ _ c.from_residual-in_err-push_u32-2.result c.from_residual-in_err-push_u32-2.ensures.1

pub returns-in_err-push_u16-2 : goal.returns-in_err-push_u16-2
returns-in_err-push_u16-2 c = no_value _ _ c.from_residual-in_err-push_u16-2.result c.from_residual-in_err-push_u16-2.ensures.1

pub returns-in_err-push_u16-3 : goal.returns-in_err-push_u16-3
returns-in_err-push_u16-3 c = no_value _ _ c.from_residual-in_err-push_u16-3.result c.from_residual-in_err-push_u16-3.ensures.1

pub returns-in_err-push_u16-4 : goal.returns-in_err-push_u16-4
returns-in_err-push_u16-4 c = no_value _ _ c.from_residual-in_err-push_u16-4.result c.from_residual-in_err-push_u16-4.ensures.1

pub returns-in_err-push_u32-3 : goal.returns-in_err-push_u32-3
returns-in_err-push_u32-3 c = no_value _ _ c.from_residual-in_err-push_u32-3.result c.from_residual-in_err-push_u32-3.ensures.1

pub returns-in_err-extend_from_slice-2 : goal.returns-in_err-extend_from_slice-2
returns-in_err-extend_from_slice-2 c = no_value _ _ c.from_residual-in_err-extend_from_slice-2.result c.from_residual-in_err-extend_from_slice-2.ensures.1
