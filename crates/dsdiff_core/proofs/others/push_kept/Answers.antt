use Rattle.std.proofs.Common.{◌++◌, ◌∙◌, not, map, refl, sym, ap, arith, append_assoc}
use Rattle.std.proofs.lemmas.List.{append-nil, map_push, take_all}
use Rattle.chunk_core.specs.Chunks.{Chunk}
use Rattle.chunk_core.specs.Places.{span_chunk}
use Rattle.dsd_bits.specs.Contents.{other_content}
use Rattle.dsd_bits.specs.Shape.{has_part}
use Rattle.dsdiff_core.specs.Others.{kept, other_in}
use Rattle.dsdiff_core.proofs.KeptLoop.{passed_more, passed_by}
use Rattle.dsdiff_core.proofs.HeldLaws.{kept_holds}
use Rattle.dsdiff_core.proofs.OnceLoop.{no_span}
use Rattle.dsdiff_core.specs.Held.{held}
use Rattle.dsdiff_core.proofs.others.push_kept.Goals as goal
use Rattle.dsdiff_core.proofs.others.push_kept.Goals.{then-not-is_read+in_ok-bytes+in_ok-push, else-not-is_read}

pub loop-span-init : goal.loop-span-init
loop-span-init c = sym (append-nil (map other_content c.args.others.now.items))

pub is_read-requires : goal.is_read-requires
is_read-requires c = c.requires c.loop-span.span-index no_span c.loop-span-test.true

pub data_of-requires : goal.data_of-requires
data_of-requires c = kept_holds c.args.place c.args.file _ (c.requires c.loop-span.span-index no_span c.loop-span-test.true) (sym c.is_read.ensures ∙ c.if-not-is_read.true)

pub loop-span-preserved : goal.loop-span-preserved
loop-span-preserved c =
    let place = c.args.place in
    let test = λ (ch : Chunk). not (has_part place ch.id ch.content) in
    elim c.if-not-is_read.branch [
      | then-not-is_read+in_ok-bytes+in_ok-push w ↦
          let more = passed_more (other_in place) test (held c.args.file) c.args.spans.now c.loop-span.span-index no_span c.loop-span-test.true (rw (← c.is_read.ensures, w.if-not-is_read.true) refl) in
          rw (w.others-is, w.in_ok-push.ensures.items, map_push, more, c.loop-span.invariant, append_assoc, w.in_ok-bytes.ensures.items, w.data_of.ensures.value) refl
      | else-not-is_read w ↦
          rw (w.others-is, passed_by (other_in place) test (held c.args.file) c.args.spans.now c.loop-span.span-index no_span c.loop-span-test.true (rw (← c.is_read.ensures, w.if-not-is_read.false) refl)) c.loop-span.invariant
    ]

pub returns : goal.returns
returns c =
    c.loop-span.invariant
    ∙ ap (λ ss. map other_content c.args.others.now.items ++ kept c.args.place (map (span_chunk (held c.args.file)) ss)) (take_all c.loop-span.span-index c.args.spans.now (omega arith))
