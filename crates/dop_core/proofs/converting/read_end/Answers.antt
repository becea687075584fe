use Rattle.dsd_bits.proofs.ExitLaws.{no_ok}
use Rattle.dop_core.proofs.converting.read_end.Goals as goal

pub returns-in_err-read_piece : goal.returns-in_err-read_piece
returns-in_err-read_piece g c =
    let r = c.from_residual in
    record { ok = no_ok _ _ r.result r.ensures.1; at_end = no_ok _ _ r.result r.ensures.1 }
