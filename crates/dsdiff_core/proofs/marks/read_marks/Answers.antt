use Rattle.std.proofs.Common.{◌<◌, ◌^◌, ◌∙◌, ap, length, refl, sym, arith}
use Rattle.std.proofs.lemmas.List.{map_push, take_all}
use Rattle.std.proofs.lemmas.List.Elements.{All-push}
use Rattle.dsd_bits.proofs.ExitLaws.{no_value}
use Rattle.dsd_bits.specs.declared.marks.Mark.{Mark}
use Rattle.dsd_bits.specs.Ids.{MARK}
use Rattle.dsdiff_core.specs.Kinds.{has_id}
use Rattle.dsdiff_core.specs.Marks.{mark_in}
use Rattle.dsdiff_core.specs.Reading.{marks_of}
use Rattle.dsdiff_core.proofs.KeptLoop.{passed_more, passed_by}
use Rattle.dsdiff_core.proofs.MarkLaws.{whole_at}
use Rattle.dsdiff_core.proofs.OnceLoop.{no_span}
use Rattle.dsdiff_core.specs.Held.{held}
use Rattle.dsdiff_core.proofs.marks.read_marks.Goals as goal
use Rattle.dsdiff_core.proofs.marks.read_marks.Goals.{then-eq+in_ok-read_mark+in_ok-push, else-eq}

pub read_mark-requires-clause-fields : goal.read_mark-requires-clause-fields
read_mark-requires-clause-fields c =
    let w = whole_at (held c.args.file) c.args.inner.now c.loop-span.span-index no_span (omega arith) c.requires.whole (sym c.eq.ensures ∙ c.if-eq.true) in
    rw c.data_of.ensures.value w.fields

pub read_mark-requires-clause-text : goal.read_mark-requires-clause-text
read_mark-requires-clause-text c =
    let w = whole_at (held c.args.file) c.args.inner.now c.loop-span.span-index no_span (omega arith) c.requires.whole (sym c.eq.ensures ∙ c.if-eq.true) in
    rw c.data_of.ensures.value w.text

pub loop-span-preserved : goal.loop-span-preserved
loop-span-preserved c =
    elim c.if-eq.branch [
      | then-eq+in_ok-read_mark+in_ok-push w ↦
          let more = passed_more mark_in (has_id MARK) (held c.args.file) c.args.inner.now c.loop-span.span-index no_span (omega arith) (sym w.if-eq.ensures) in
          rw (w.marks-is, w.in_ok-push.ensures.items) (record {
            marks = rw (map_push, more, c.loop-span.invariant.marks, w.in_ok-read_mark.ensures.mark, w.data_of.ensures.value) refl;
            short = All-push (λ (m : Mark). length m.text.items < 2 ^ 32) c.loop-span.marks.items _ c.loop-span.invariant.short w.in_ok-read_mark.ensures.short;
          })
      | else-eq w ↦
          rw w.marks-is (record {
            marks = rw (passed_by mark_in (has_id MARK) (held c.args.file) c.args.inner.now c.loop-span.span-index no_span (omega arith) (sym w.if-eq.ensures)) c.loop-span.invariant.marks;
            short = c.loop-span.invariant.short;
          })
    ]

pub returns-clause-marks : goal.returns-clause-marks
returns-clause-marks c =
    c.loop-span.invariant.marks ∙ ap (marks_of (held c.args.file)) (take_all c.loop-span.span-index c.args.inner.now c.loop-span-test.false)

pub returns-in_err-read_mark-clause-marks : goal.returns-in_err-read_mark-clause-marks
returns-in_err-read_mark-clause-marks c = no_value _ _ c.from_residual.result c.from_residual.ensures.1

pub returns-in_err-read_mark-clause-short : goal.returns-in_err-read_mark-clause-short
returns-in_err-read_mark-clause-short c = no_value _ _ c.from_residual.result c.from_residual.ensures.1

pub returns-in_err-push-clause-marks : goal.returns-in_err-push-clause-marks
returns-in_err-push-clause-marks c = no_value _ _ c.from_residual-in_err-push.result c.from_residual-in_err-push.ensures.1

pub returns-in_err-push-clause-short : goal.returns-in_err-push-clause-short
returns-in_err-push-clause-short c = no_value _ _ c.from_residual-in_err-push.result c.from_residual-in_err-push.ensures.1

pub returns-clause-short : goal.returns-clause-short
returns-clause-short c = c.loop-span.invariant.short
