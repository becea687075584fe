use Rattle.std.proofs.Common.{◌<◌, ◌≤◌, ◌∙◌, ◌++◌, ◌+◌, ap, arith, length, map, sum_by, sym, take}
use Rattle.std.proofs.lemmas.Result.{IfOk-from_err}
use Rattle.std.proofs.lemmas.List.Sums.{sum_by_more, sum_by_more_le}
use Rattle.dsd_bits.specs.Contents.{mark_content}
use Rattle.splice_core.specs.Cues.{CueContent}
use Rattle.splice_core.specs.Splices.{splice_content}
use Rattle.cost_core.specs.Windows.{splice_cue}
use Rattle.cut_core.specs.Cuts.{master_length, span}
use Rattle.cut_core.specs.Titles.{mark_of_title, titles}
use Rattle.cut_core.proofs.TitleLaws.{titled_all, titled_more}
use Rattle.cut_core.proofs.titles.title_marks.Goals as goal
use Rattle.cut_core.proofs.titles.title_marks.Goals.{In-loop-i}

-- the cue and the bridge after it end within the master
within : (c : In-loop-i) → c.loop-i.place + span (splice_cue (splice_content c.args.splice.now) c.loop-i.i) ≤ master_length (splice_content c.args.splice.now).cues
within c =
    let cues = (splice_content c.args.splice.now).cues in
    let lt : c.loop-i.i < length cues = omega (arith, c.cue_number-i-end.ensures.value) in
    let most : sum_by span (take c.loop-i.i cues) + span (splice_cue (splice_content c.args.splice.now) c.loop-i.i) ≤ master_length cues = sum_by_more_le span cues c.loop-i.i _ lt in
    omega (arith, c.loop-i.invariant.place, most)

pub push_title-requires-clause-place : goal.push_title-requires-clause-place
push_title-requires-clause-place c = omega (arith, within (goal.at.push_title-requires-clause-place c).In-loop-i, c.requires.in_limit)

pub overflow_add-place : goal.overflow_add-place
overflow_add-place c = omega (arith, within (goal.at.overflow_add-place c).In-loop-i, c.span_at-place.ensures.value, c.requires.in_limit)

pub loop-i-preserved : goal.loop-i-preserved
loop-i-preserved c =
    let cues = (splice_content c.args.splice.now).cues in
    let i = c.loop-i.i in
    let lt : i < length cues = omega (arith, c.cue_number-i-end.ensures.value) in
    let one = c.in_ok-push_title.ensures ∙ ap (λ (q : CueContent). map mark_content c.loop-i.marks.items ++ mark_of_title c.args.rate c.loop-i.place q.title) c.cue_at.ensures.value in
    record {
      place = ap (λ n. n + c.span_at-place.result) c.loop-i.invariant.place ∙ ap (λ n. sum_by span (take i cues) + n) c.span_at-place.ensures.value ∙ sym (sum_by_more span cues i _ lt);
      marked = rw c.span_at-place.ensures.value (titled_more c.args.rate c.loop-i.place i cues _ (map mark_content c.loop-i.marks.items) (map mark_content c.push_title.new.out.items) (titles c.args.rate cues) lt c.loop-i.invariant.marked one);
    }

pub returns : goal.returns
returns c =
    let cues = (splice_content c.args.splice.now).cues in
    titled_all c.args.rate c.loop-i.place c.loop-i.i cues (map mark_content c.loop-i.marks.items) (titles c.args.rate cues) (omega (arith, c.cue_number-i-end.ensures.value)) c.loop-i.invariant.marked

pub returns-in_err-push_title : goal.returns-in_err-push_title
returns-in_err-push_title c = IfOk-from_err c.from_residual.result _ c.from_residual.ensures.0
