use Rattle.std.proofs.Common.{◌++◌, ◌∙◌, ap, arith}
use Rattle.dsd_bits.proofs.ExitLaws.{no_value}
use Rattle.dsdiff_core.proofs.WritingLemmas.{head_is}
use Rattle.dsdiff_core.proofs.writing.write_head.Goals as goal

pub returns-in_err-first : goal.returns-in_err-first
returns-in_err-first c = no_value _ _ c.from_residual.result c.from_residual.ensures.1

pub returns-in_err-extend_from_slice : goal.returns-in_err-extend_from_slice
returns-in_err-extend_from_slice c = no_value _ _ c.from_residual-in_err-extend_from_slice.result c.from_residual-in_err-extend_from_slice.ensures.1

pub returns-in_err-push_u64 : goal.returns-in_err-push_u64
returns-in_err-push_u64 c = no_value _ _ c.from_residual-in_err-push_u64.result c.from_residual-in_err-push_u64.ensures.1

pub returns-in_err-extend_from_slice-2 : goal.returns-in_err-extend_from_slice-2
returns-in_err-extend_from_slice-2 c = no_value _ _ c.from_residual-in_err-extend_from_slice-2.result c.from_residual-in_err-extend_from_slice-2.ensures.1

pub returns-in_err-extend_from_slice-3 : goal.returns-in_err-extend_from_slice-3
returns-in_err-extend_from_slice-3 c = no_value _ _ c.from_residual-in_err-extend_from_slice-3.result c.from_residual-in_err-extend_from_slice-3.ensures.1

pub returns-in_err-extend_from_slice-4 : goal.returns-in_err-extend_from_slice-4
returns-in_err-extend_from_slice-4 c = no_value _ _ c.from_residual-in_err-extend_from_slice-4.result c.from_residual-in_err-extend_from_slice-4.ensures.1

pub returns-in_err-push_u64-2 : goal.returns-in_err-push_u64-2
returns-in_err-push_u64-2 c = no_value _ _ c.from_residual-in_err-push_u64-2.result c.from_residual-in_err-push_u64-2.ensures.1

pub returns : goal.returns
returns c =
    head_is c.args.recording.now c.args.size c.args.after c.size_around.result c.len.result c.in_ok-first.first.items
    c.new-out.result.items c.extend_from_slice.new.self.items c.push_u64.new.out.items c.extend_from_slice-2.new.self.items c.extend_from_slice-3.new.self.items c.extend_from_slice-4.new.self.items c.push_u64-2.new.out.items
    c.requires c.in_ok-first.ensures (omega arith) c.size_around.ensures c.new-out.ensures.items c.in_ok-extend_from_slice.ensures.items c.in_ok-push_u64.ensures.ok c.in_ok-extend_from_slice-2.ensures.items
    (c.in_ok-extend_from_slice-3.ensures.items ∙ ap (λ x. c.extend_from_slice-2.new.self.items ++ x) c.deref.ensures.value) c.in_ok-extend_from_slice-4.ensures.items c.in_ok-push_u64-2.ensures.ok
