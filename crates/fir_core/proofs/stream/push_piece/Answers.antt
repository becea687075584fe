use Rattle.std.proofs.Common.{sym, arith}
use Rattle.fir_core.proofs.ExitLaws.{there_err}
use Rattle.fir_core.proofs.StreamLaws.{held_again}
use Rattle.fir_core.proofs.stream.push_piece.Goals as goal

pub returns-then-is_err-clause-err : goal.returns-then-is_err-clause-err
returns-then-is_err-clause-err c =
    (held_again c.args.held.now.items c.args.bytes.now c.extend_from_slice.new.self.items c.truncate.new.self.items c.len-before.result (omega arith) c.in_ok-extend_from_slice.ensures.items c.truncate.ensures.items, there_err c.push_samples.result (sym c.if-is_err.ensures.value) c.push_samples.ensures.err)
