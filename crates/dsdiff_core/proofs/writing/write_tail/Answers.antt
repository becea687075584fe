use Rattle.std.proofs.Common.{◌%◌}
use Rattle.dsd_bits.proofs.ExitLaws.{no_value}
use Rattle.dsdiff_core.proofs.WritingLemmas.{tail_is, zeros_in}
use Rattle.dsdiff_core.proofs.writing.write_tail.Goals as goal

pub returns-in_err-resize : goal.returns-in_err-resize
returns-in_err-resize c = no_value _ _ c.from_residual.result c.from_residual.ensures.1

pub returns-in_err-push_master : goal.returns-in_err-push_master
returns-in_err-push_master c = no_value _ _ c.from_residual-in_err-push_master.result c.from_residual-in_err-push_master.ensures.1

pub returns-in_err-push_others : goal.returns-in_err-push_others
returns-in_err-push_others c = no_value _ _ c.from_residual-in_err-push_others.result c.from_residual-in_err-push_others.ensures.1

pub returns : goal.returns
returns c =
    tail_is c.args.recording.now c.args.size _ c.resize.new.self.items c.push_master.new.out.items c.push_others.new.out.items c.others.ensures (zeros_in (c.args.size % 2) _ _ _ c.new-out.ensures.items c.new-out.ensures.len c.in_ok-resize.ensures.items) c.in_ok-push_master.ensures c.in_ok-push_others.ensures
