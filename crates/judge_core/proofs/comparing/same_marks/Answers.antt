use Rattle.std.proofs.Common.{◌∷◌, [], ◌++◌, ◌∙◌, ap, arith, map, sym, take}
use Rattle.dsd_bits.specs.Contents.{mark_content}
use Rattle.judge_core.proofs.CompareLaws.{marks_more, same_at}
use Rattle.judge_core.proofs.comparing.same_marks.Goals as goal

pub returns-then-not-same_mark-clause-no : goal.returns-then-not-same_mark-clause-no
returns-then-not-same_mark-clause-no c = λ t e. c.same_mark.ensures.no c.if-not-same_mark.true (same_at c.args.a.now c.args.b.now c.loop-i.i c.index-a-i.result c.index-b-i.result e (omega arith) (omega arith) c.index-a-i.is c.index-b-i.is)

pub loop-i-preserved : goal.loop-i-preserved
loop-i-preserved c =
    let a = c.args.a.now in
    let b = c.args.b.now in
    let x = c.index-a-i.result in
    let y = c.index-b-i.result in
    let same = c.same_mark.ensures.yes c.if-not-same_mark.false in
    record { same = marks_more a c.loop-i.i x (omega arith) c.index-a-i.is ∙ ap (λ l. l ++ mark_content x ∷ []) c.loop-i.invariant.same ∙ ap (λ q. take c.loop-i.i (map mark_content b) ++ q ∷ []) same ∙ sym (marks_more b c.loop-i.i y (omega arith) c.index-b-i.is) }
