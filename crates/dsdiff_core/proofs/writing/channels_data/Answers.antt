use Rattle.std.proofs.Common.{◌++◌, ◌∙◌, flat_map, length, ap, arith}
use Rattle.std.proofs.lemmas.List.{take_all}
use Rattle.dsd_bits.proofs.ExitLaws.{no_value}
use Rattle.byteorder.specs.Endian.{big_bytes}
use Rattle.dsdiff_core.proofs.WritingLemmas.{ids_more}
use Rattle.dsdiff_core.proofs.writing.channels_data.Goals as goal

pub overflow_cast-ids : goal.overflow_cast-ids
overflow_cast-ids c = omega arith

pub returns : goal.returns
returns c =
    c.loop-id.invariant ∙ ap (λ ids. big_bytes 2 (length c.args.ids.now) ++ flat_map (λ id. id) ids) (take_all c.loop-id.id-index c.args.ids.now (omega arith))

pub returns-in_err-push_u16 : goal.returns-in_err-push_u16
returns-in_err-push_u16 c = no_value _ _ c.from_residual.result c.from_residual.ensures.1

pub returns-in_err-extend_from_slice : goal.returns-in_err-extend_from_slice
returns-in_err-extend_from_slice c = no_value _ _ c.from_residual-in_err-extend_from_slice.result c.from_residual-in_err-extend_from_slice.ensures.1

pub loop-id-preserved : goal.loop-id-preserved
loop-id-preserved c =
    ids_more c.args.ids.now c.loop-id.id-index _ (big_bytes 2 (length c.args.ids.now)) c.loop-id.out.items _ c.loop-id-test.true c.loop-id.invariant c.in_ok-extend_from_slice.ensures.items
