use Rattle.std.proofs.Common.{◌++◌, ◌∙◌, flat_map, map, ap, sym, arith}
use Rattle.std.proofs.lemmas.List.{append-nil, take_all}
use Rattle.dsd_bits.proofs.ExitLaws.{no_ok}
use Rattle.chunk_core.specs.Chunks.{spell, spelled}
use Rattle.dsd_bits.specs.Contents.{other_content}
use Rattle.dsdiff_core.specs.Writing.{others_of}
use Rattle.dsdiff_core.proofs.WritingLemmas.{others_by, others_more}
use Rattle.dsdiff_core.proofs.writing.push_others.Goals as goal
use Rattle.dsdiff_core.proofs.writing.push_others.Goals.{then-holds_at+in_ok-push_chunk, else-holds_at}

pub returns-in_err-push_chunk : goal.returns-in_err-push_chunk
returns-in_err-push_chunk c = no_ok _ _ c.from_residual.result c.from_residual.ensures.1

pub loop-other-init : goal.loop-other-init
loop-other-init c = sym (append-nil c.args.out.now.items)

pub returns : goal.returns
returns c =
    c.loop-other.invariant ∙ ap (λ others. c.args.out.now.items ++ flat_map spell (others_of c.args.place (map other_content others))) (take_all c.loop-other.other-index c.args.others.now (omega arith))

pub loop-other-preserved : goal.loop-other-preserved
loop-other-preserved c =
    elim c.if-holds_at.branch [
      | then-holds_at+in_ok-push_chunk w ↦
          rw w.out-is (others_more c.args.place c.args.others.now c.loop-other.other-index c.other-item.result c.args.out.now.items c.loop-other.out.items _ c.loop-other-test.true c.other-item.is (sym w.if-holds_at.ensures) c.loop-other.invariant (w.in_ok-push_chunk.ensures.ok ∙ ap (λ x. c.loop-other.out.items ++ spelled c.other-item.result.id x) w.deref.ensures.value))
      | else-holds_at w ↦
          rw w.out-is (others_by c.args.place c.args.others.now c.loop-other.other-index c.other-item.result c.args.out.now.items c.loop-other.out.items c.loop-other-test.true c.other-item.is (sym w.if-holds_at.ensures) c.loop-other.invariant)
    ]
